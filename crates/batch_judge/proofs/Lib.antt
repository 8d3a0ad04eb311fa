-- Laws of the code that judges.
pub mod Told
pub mod Parts
