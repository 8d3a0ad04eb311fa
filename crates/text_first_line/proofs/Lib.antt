-- Laws of the first line.
pub mod Lines
pub mod Looking
pub mod Laws
pub mod Example
