-- Laws of frames.
pub mod Branches
pub mod Ending
pub mod Accepted
pub mod Faulty
