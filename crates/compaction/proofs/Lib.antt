-- Laws of a compaction.
pub mod Places
pub mod Closing
pub mod Keeping
pub mod Checking
pub mod Alike
pub mod Compacting
pub mod Twice
pub mod Listing
pub mod Updating
pub mod Growing
pub mod Fitting
pub mod Example
