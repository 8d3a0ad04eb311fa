-- Laws of the checks of a proposed tree.
pub mod Accepting
