-- What is accepted under some limits: kept under wider ones, and answered by 2 or 13 under others.
pub mod Limits
pub mod Frames
pub mod Lines
pub mod Kept
pub mod Numbers
pub mod Ours
