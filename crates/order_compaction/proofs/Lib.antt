-- A compaction before a batch changes no answer of it but the numbers of nodes.
pub mod Stepping
pub mod Between
