-- What a reader must believe of patterns as text is Texts and Meaning; Scan need not be believed.
pub mod Texts
pub mod Scan
pub mod Meaning
