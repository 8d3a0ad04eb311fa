-- What a reader must believe of documents whose nodes are numbered otherwise: when two of them hold the same things.
pub mod Alike
