-- What a reader must believe of reading a pattern's text is Reading; Walk and Rest need not be believed.
pub mod Reading
pub mod Walk
pub mod Rest
