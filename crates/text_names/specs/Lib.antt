-- What a reader must believe of names is Letters and Names; Entries need not be believed.
pub mod Letters
pub mod Names
pub mod Entries
