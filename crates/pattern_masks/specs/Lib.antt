-- The masks of a pattern, in words of 64 steps: the inside of reading, which need not be believed.
pub mod Masks
