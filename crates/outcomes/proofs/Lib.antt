-- Laws of what operations find.
pub mod Found
