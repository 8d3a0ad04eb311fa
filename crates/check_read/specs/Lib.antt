-- What a reader must believe of the checks of a read.
pub mod Readable
