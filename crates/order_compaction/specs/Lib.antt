-- What a reader must believe of a batch that is run after a compaction and without it.
pub mod Numbers
