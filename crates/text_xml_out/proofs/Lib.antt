-- Laws of writing a tree as nested tags.
pub mod Places
pub mod Digits
pub mod Tagging
pub mod Siblings
pub mod Linking
pub mod Sizes
pub mod Nodes
pub mod Promise
