-- What a reader must believe of tables: their words, documents, limits and checks.
pub mod Limits
pub mod Words
pub mod Patterns
pub mod Documents
pub mod Refusals
pub mod Checks
