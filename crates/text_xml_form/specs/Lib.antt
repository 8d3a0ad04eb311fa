-- What a reader must believe of tags that are read is Elements and Numbering; Scan and Rows need not be believed.
pub mod Elements
pub mod Numbering
pub mod Scan
pub mod Rows
