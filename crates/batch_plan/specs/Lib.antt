-- What a reader must believe of plans is Batch; Walking is what the walk over a batch asks, and need not be believed.
pub mod Batch
pub mod Walking
