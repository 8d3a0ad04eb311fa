-- Laws of the ways on which a read and an update meet, and of the conflicts that these decide.
pub mod Steps
pub mod Meeting
pub mod Shortest
pub mod Crossing
pub mod Chains
pub mod Depth
pub mod Smallest
pub mod Deletes
pub mod Entering
pub mod Inserts
pub mod Chained
pub mod Deeps
pub mod Both
pub mod Beneath
