-- Laws of the code that mends.
pub mod Branches
pub mod Passing
pub mod Promises
pub mod Laws
pub mod Refusing
