-- Laws of lines.
pub mod Branches
pub mod Promise
