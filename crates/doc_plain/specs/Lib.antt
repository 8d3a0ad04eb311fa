-- What a reader must believe of the plain reading is Plain; Landing need not be believed.
pub mod Plain
pub mod Landing
