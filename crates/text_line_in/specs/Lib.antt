-- What a reader must believe of lines.
pub mod Lines
