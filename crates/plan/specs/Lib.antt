-- What the program's own functions promise each other: it need not be believed.
pub mod Plan
