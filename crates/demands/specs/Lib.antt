-- The three demands, what is asked to be shown besides, and what a delete and an insert do by embeddings.
pub mod Updates
pub mod Demands
pub mod Requests
