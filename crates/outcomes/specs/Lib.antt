-- What a reader must believe of what operations find.
pub mod Numbers
