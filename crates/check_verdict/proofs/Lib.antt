-- Laws of the checks of a verdict.
pub mod Accepting
