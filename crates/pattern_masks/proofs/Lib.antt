-- Laws of masks.
pub mod Passing
pub mod Slots
pub mod Masks
