-- What a reader must believe of the verdict.
pub mod Promise
