-- Laws of the checks of trees.
pub mod Branches
