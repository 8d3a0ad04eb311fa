-- What copies under chosen nodes give, for every table: the inside of insert, which need not be believed.
pub mod Grafting
