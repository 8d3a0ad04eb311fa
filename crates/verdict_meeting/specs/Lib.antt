-- Meeting: the inside of the verdict, which need not be believed.
pub mod Met
pub mod Cells
pub mod Tracing
pub mod Nearing
