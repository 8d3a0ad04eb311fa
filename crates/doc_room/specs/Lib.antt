-- What the inside of counting holds: it need not be believed.
pub mod Ticking
