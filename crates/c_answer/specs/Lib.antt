-- What a reader must believe of the answers that go out to C and Rust.
pub mod Answers
