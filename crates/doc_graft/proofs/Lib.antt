-- Laws of the copies.
pub mod Turns
pub mod Trees
