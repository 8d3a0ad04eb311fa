-- What a reader must believe of the call that compacts.
pub mod Compacting
pub mod Closing
