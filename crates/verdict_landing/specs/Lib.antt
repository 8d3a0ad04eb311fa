-- Landing: the inside of the verdict, which need not be believed.
pub mod Landing
