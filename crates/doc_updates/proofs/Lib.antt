-- Laws of delete and insert.
pub mod Bits
pub mod Counting
pub mod Asking
pub mod Accepted
pub mod Settled
pub mod Keeping
pub mod Deletes
pub mod Inserts
