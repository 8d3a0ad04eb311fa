-- What a reader must believe of checking a proposed tree is Promise; the others are what its inside holds, and need not be believed.
pub mod Promise
pub mod Finding
pub mod Rows
