-- Laws of checking a proposed tree.
pub mod Searching
pub mod Branches
pub mod Unmarked
pub mod Firsts
pub mod Opening
pub mod Copying
pub mod Granted
pub mod Losing
pub mod Gaining
pub mod Promise
