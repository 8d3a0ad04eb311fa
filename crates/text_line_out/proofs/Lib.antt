-- Laws of written lines.
pub mod Branches
pub mod Promise
