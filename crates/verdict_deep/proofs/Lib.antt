-- Laws of the deep verdict.
pub mod Judging
pub mod Promise
