-- What a reader must believe of printed lines.
pub mod Printing
