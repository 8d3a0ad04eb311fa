-- Laws of the library for C and Rust.
pub mod Settled
