-- What a reader must believe of mending: what it does to the marks, the list that it gives, and what the largest sound set is.
pub mod Mending
pub mod ByWords
pub mod Sets
pub mod Undoing
