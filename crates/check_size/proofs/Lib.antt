-- Laws of the checks of sizes.
pub mod Branches
