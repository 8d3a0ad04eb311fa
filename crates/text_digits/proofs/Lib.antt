-- Laws of digits.
pub mod Digits
pub mod Returning
