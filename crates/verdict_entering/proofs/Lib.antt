-- Laws of entering an inserted tree.
pub mod Climbing
pub mod States
