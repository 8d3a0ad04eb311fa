-- Laws of the code of insert.
pub mod Branches
pub mod Identities
pub mod Promises
