-- Laws of the checks of documents.
pub mod Branches
pub mod Counts
pub mod Marks
