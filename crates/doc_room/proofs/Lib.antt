-- Laws of the room of an insert.
pub mod Branches
pub mod Counting
