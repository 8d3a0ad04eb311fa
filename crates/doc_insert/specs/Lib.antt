-- What the inside of insert holds: it need not be believed.
pub mod Planning
