-- Sets of steps in words of 64 bits, and what stands at a node by what stands above it: the inside of reading, which need not be believed.
pub mod Sets
