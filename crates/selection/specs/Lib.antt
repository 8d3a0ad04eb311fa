-- What a reader must believe of selection and of the three operations; Ways is how selection is computed, and need not be believed.
pub mod Embeddings
pub mod Ways
pub mod Rows
pub mod Lists
pub mod Showing
pub mod Operations
