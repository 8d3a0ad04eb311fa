-- What a reader must believe of digits.
pub mod Digits
