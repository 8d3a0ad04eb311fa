-- What a reader must believe of writing a pattern as text is Writing; Rest, Lookup and Steps need not be believed.
pub mod Writing
pub mod Rest
pub mod Lookup
pub mod Steps
