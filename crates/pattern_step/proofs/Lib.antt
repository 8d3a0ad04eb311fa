-- Laws of one step of a pattern.
pub mod Branches
