-- What a reader must believe of the first line is FirstLine and Answer; Looking is what its functions promise each other, and need not be believed.
pub mod FirstLine
pub mod Answer
pub mod Looking
