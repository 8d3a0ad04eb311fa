-- Laws of writing a pattern as text.
pub mod Lookup
pub mod Steps
pub mod Rooms
pub mod Putting
pub mod Promise
