-- Laws of reading a pattern's text.
pub mod Branches
pub mod Scanned
pub mod Walking
pub mod Left
pub mod Taking
pub mod Promise
