-- What a reader must believe of batches.
pub mod Batches
