-- Laws of the checks of patterns.
pub mod Branches
