-- What a reader must believe of a walk over the frames of a batch.
pub mod Walking
pub mod Walk
