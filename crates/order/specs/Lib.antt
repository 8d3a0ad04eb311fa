-- What a reader must believe of the frames of a batch and of orders of them is Frames and Order; Model and Fitting need not be believed.
pub mod Frames
pub mod Order
pub mod Model
pub mod Fitting
