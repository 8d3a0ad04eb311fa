-- Laws of the code of delete.
pub mod Branches
pub mod Hits
pub mod Promises
