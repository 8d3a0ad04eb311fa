-- What a reader must believe of the checks of a plain reading.
pub mod Bare
