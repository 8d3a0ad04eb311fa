-- What a reader must believe of trees as nested tags.
pub mod Decimal
pub mod Tags
