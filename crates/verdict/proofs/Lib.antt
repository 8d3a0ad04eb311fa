-- Laws of the verdict.
pub mod Judging
pub mod Promise
