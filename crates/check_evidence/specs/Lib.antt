-- The order of checks for a proposed tree.
pub mod Order
