-- Laws of landing.
pub mod Branches
