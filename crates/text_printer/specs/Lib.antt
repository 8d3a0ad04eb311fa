-- What a reader must believe of the plan printer is Printer, of the word that a refusal names Faults, and of the program's two numbers Enough; Reading
-- is what its functions ask of each other, and need not be believed.
pub mod Printer
pub mod Faults
pub mod Enough
pub mod Reading
