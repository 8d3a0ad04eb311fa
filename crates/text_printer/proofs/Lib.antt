-- Laws of the plan printer.
pub mod Taking
pub mod Going
pub mod Longer
pub mod Accepting
pub mod Offsets
pub mod Promise
pub mod Settled
pub mod Enough
pub mod Behind
pub mod Moded
