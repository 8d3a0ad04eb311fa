-- Laws of a whole frame.
pub mod Branches
