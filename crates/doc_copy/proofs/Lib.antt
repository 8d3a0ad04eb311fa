-- Laws of the copier.
pub mod Held
pub mod Copies
pub mod Grafting
pub mod Laws
