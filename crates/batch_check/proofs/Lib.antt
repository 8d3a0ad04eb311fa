-- Laws of batches and of their frames.
pub mod Accepted
pub mod Frames
pub mod Left
