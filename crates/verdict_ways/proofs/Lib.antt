-- Laws of shortest ways.
pub mod Marked
pub mod Allowed
pub mod Deciding
