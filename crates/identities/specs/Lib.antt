-- What a reader must believe of documents with identities: the checks, the updates, a compaction, and the sets of identities that a read selects.
pub mod Documents
pub mod Checks
pub mod Updates
pub mod Compaction
pub mod Showing
pub mod Conflict
