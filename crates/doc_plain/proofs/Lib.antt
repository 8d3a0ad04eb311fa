-- Laws of the plain reading.
pub mod Landing
pub mod Promise
