-- Laws of names.
pub mod Table
pub mod Rule
pub mod Same
pub mod Naming
pub mod Lines
pub mod Numbering
pub mod Fitting
pub mod Listing
pub mod Numbers
pub mod Written
pub mod Entry
pub mod Lists
pub mod Slots
