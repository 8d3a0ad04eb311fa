-- Laws of meeting.
pub mod Branches
pub mod Places
pub mod Cells
pub mod Choosing
pub mod Tracing
pub mod Nearest
pub mod Admitted
