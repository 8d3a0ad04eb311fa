-- Laws of tables and of their checks.
pub mod Each
pub mod Outside
pub mod Tests
pub mod Branches
pub mod Accepted
pub mod First
pub mod Soundness
pub mod Elsewhere
pub mod Refused
pub mod Reasons
