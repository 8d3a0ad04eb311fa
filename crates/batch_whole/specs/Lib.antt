-- A whole frame: the inside of the plan printer, which need not be believed.
pub mod Whole
