-- Laws of trees as nested tags.
pub mod Tags
pub mod Decimal
pub mod Bytes
