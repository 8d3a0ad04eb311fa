-- Laws of the frame walker.
pub mod Given
pub mod Branches
pub mod Laws
pub mod Alone
pub mod Walk
