-- What a reader must believe of the checks of a verdict is Order; Admitted is what they give, and need not be believed.
pub mod Order
pub mod Admitted
