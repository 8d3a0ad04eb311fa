-- What a reader must believe of running a batch is Calls; Running is the model by which the proof goes, and need not be believed.
pub mod Calls
pub mod Running
