-- Laws of the code of a compaction, and of what it leaves to its callers.
pub mod Moves
pub mod Promises
pub mod Laws
