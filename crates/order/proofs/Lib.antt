-- Laws of slots and orders: in every order that keeps to the slots, a batch gives what it gives in its own.
pub mod Places
pub mod Slots
pub mod Stages
pub mod Walking
pub mod Own
pub mod Theorem
pub mod Deciding
