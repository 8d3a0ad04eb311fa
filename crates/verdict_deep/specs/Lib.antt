-- What a reader must believe of the deep verdict.
pub mod Promise
