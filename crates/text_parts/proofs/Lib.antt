-- Laws of parts of a text.
pub mod Finding
pub mod Cutting
pub mod Starts
