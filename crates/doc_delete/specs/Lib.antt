-- What the inside of delete holds: it need not be believed.
pub mod Striking
