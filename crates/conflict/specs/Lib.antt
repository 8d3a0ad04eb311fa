-- What a reader must believe of conflicts; Meeting and Crossing are how the verdict finds them, and need not be believed.
pub mod Conflict
pub mod Meeting
pub mod Crossing
