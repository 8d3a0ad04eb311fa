-- What a reader must believe of reading a tree's tags is Reading; Rest, Levels and Rows need not be believed.
pub mod Reading
pub mod Rest
pub mod Levels
pub mod Rows
