-- Laws of selection and of the operations.
pub mod Up
pub mod Runs
pub mod Presence
pub mod Selecting
pub mod Hitting
pub mod Lists
pub mod Somewhere
pub mod Filling
pub mod Rows
pub mod Deleting
pub mod Keeping
pub mod Grafting
pub mod Inserting
pub mod Showing
pub mod Beneath
