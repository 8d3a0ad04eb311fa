-- Laws of the code that checks identities.
pub mod Rising
pub mod Refusing
