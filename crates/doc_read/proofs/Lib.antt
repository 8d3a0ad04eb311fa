-- Laws of reading.
pub mod Finding
pub mod Branches
pub mod Standing
pub mod Passing
pub mod Words
pub mod Meeting
pub mod Laws
