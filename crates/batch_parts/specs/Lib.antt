-- What a reader must believe of the counted parts of a frame.
pub mod Parts
