-- Deletes called one after another remove what they remove together, in every order.
pub mod Together
pub mod Calls
pub mod Orders
pub mod Example
