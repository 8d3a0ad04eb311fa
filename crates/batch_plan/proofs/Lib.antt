-- Laws of plans.
pub mod Checked
pub mod Judged
pub mod Numbers
pub mod Slots
pub mod Searching
pub mod Turns
pub mod Laws
