-- Laws of wider reads, updates and batches.
pub mod Relation
pub mod Selecting
pub mod Conflicts
pub mod Accepting
pub mod Verdicts
pub mod Plans
pub mod Examples
