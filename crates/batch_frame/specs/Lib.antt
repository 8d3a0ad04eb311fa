-- What a reader must believe of one frame of a batch.
pub mod Frames
pub mod Faults
