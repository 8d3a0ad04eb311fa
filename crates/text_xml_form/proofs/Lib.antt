-- Laws.
pub mod Names
pub mod Steps
pub mod Passing
pub mod Opened
pub mod Stands
pub mod Closing
pub mod Scanning
pub mod Filling
pub mod Held
pub mod Trees
pub mod Ranges
pub mod Drawn
pub mod Again
pub mod Copies
pub mod Returning
pub mod Onto
pub mod Same
