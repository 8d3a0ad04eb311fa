-- The claim over the marked examples.
pub mod Marked
pub mod Named
