-- What a reader must believe of deletes one after another is Deletes; Together is what the proof goes by, and need not be believed.
pub mod Deletes
pub mod Together
