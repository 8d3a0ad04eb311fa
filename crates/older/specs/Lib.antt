-- What installations with other limits accept, and what an older one answers to what it does not.
pub mod Installations
pub mod Answers
