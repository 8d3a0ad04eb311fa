-- What a reader must believe of the call that mends marks.
pub mod Promise
pub mod Writing
