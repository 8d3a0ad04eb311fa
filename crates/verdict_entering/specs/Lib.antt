-- Entering an inserted tree: the inside of the verdict, which need not be believed.
pub mod Entering
pub mod Climbing
