-- When a read and an update of a batch clash: the inside of the plan, which need not be believed.
pub mod Judging
