-- Laws of the counted parts of a frame.
pub mod Branches
pub mod Places
pub mod Wrong
