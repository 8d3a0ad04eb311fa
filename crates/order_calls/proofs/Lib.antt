-- A batch run call by call gives what the model of its reads and updates gives, so demand 3 holds of the calls.
pub mod Demand
pub mod Accepting
pub mod Callable
pub mod Calling
pub mod Running
pub mod Same
