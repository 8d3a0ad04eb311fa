-- Shortest ways: the inside of the verdict, which need not be believed.
pub mod Ways
pub mod Marked
