-- Laws of documents with identities.
pub mod Checks
pub mod Updates
pub mod Showing
pub mod Numbered
pub mod Conflict
