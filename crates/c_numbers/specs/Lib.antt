-- What a reader must believe of the numbers of each answer.
pub mod Numbers
