-- Laws of mending.
pub mod Marks
pub mod Down
pub mod Mended
pub mod Listing
pub mod Sets
pub mod Same
pub mod Gone
pub mod Rising
pub mod ByWords
pub mod Undoing
pub mod Example
