-- Laws of the answers.
pub mod Shown
