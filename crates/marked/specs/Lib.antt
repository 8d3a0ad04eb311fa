-- What a reader must believe of the marked examples.
pub mod Marked
