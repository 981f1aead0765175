-- What a reader has to believe: all but `Plain`, which has words of the proofs.
pub mod Operators
pub mod Counts
pub mod Weights
pub mod Plain
