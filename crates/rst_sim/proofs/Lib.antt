pub mod Turns
pub mod Cycles
pub mod Sets
