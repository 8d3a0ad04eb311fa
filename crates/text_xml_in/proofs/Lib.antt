-- Laws.
pub mod Branches
pub mod Standing
pub mod Holding
pub mod Recalling
pub mod Keeping
pub mod Scanned
pub mod Slashes
pub mod Filling
pub mod Promise
