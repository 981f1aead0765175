-- What a reader has to believe: all but `Plain`, which has words of the proofs.
pub mod Reads
pub mod Sets
pub mod Surely
pub mod Blocks
pub mod Plain
