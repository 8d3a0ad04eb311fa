-- What a reader must believe of writing a tree as nested tags is Writing; Places and Links need not be believed.
pub mod Writing
pub mod Places
pub mod Links
