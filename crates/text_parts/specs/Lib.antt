-- What a reader must believe of parts of a text is Next and Starts; Scans need not be believed.
pub mod Next
pub mod Starts
pub mod Scans
