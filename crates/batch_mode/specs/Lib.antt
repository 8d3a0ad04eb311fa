-- What a reader must believe of the modes of a plan.
pub mod Modes
