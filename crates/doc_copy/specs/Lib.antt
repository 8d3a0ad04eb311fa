-- What one copy gives, for every table: the inside of insert, which need not be believed.
pub mod Copying
