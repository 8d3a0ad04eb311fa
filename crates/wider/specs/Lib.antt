-- What a reader must believe of wider reads, updates and batches; Examples are pairs and batches that the laws are shown on.
pub mod Wider
pub mod Batches
pub mod Examples
