-- Laws of sets of steps.
pub mod Bits
pub mod Words
pub mod Carried
pub mod Many
