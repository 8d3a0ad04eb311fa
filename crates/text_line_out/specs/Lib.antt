-- What a reader must believe of written lines.
pub mod Spelling
