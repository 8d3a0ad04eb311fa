-- Laws.
pub mod Bytes
pub mod Spelled
pub mod Stages
pub mod Scanning
pub mod Steps
pub mod Returning
