-- Laws of the modes of a plan.
pub mod Branches
