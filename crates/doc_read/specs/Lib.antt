-- What a reader must believe of reading a document is Reading; Wanted is the reading that other parts of the house ask for, and Standing what the
-- inside holds: neither need be believed.
pub mod Reading
pub mod Wanted
pub mod Standing
