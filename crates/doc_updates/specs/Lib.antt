-- What a reader must believe of delete and insert is Updating; Asking is what their inside holds, and need not be believed.
pub mod Updating
pub mod Asking
