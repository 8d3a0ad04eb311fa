-- Laws of printed lines.
pub mod Texts
pub mod Promise
