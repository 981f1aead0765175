-- What a reader has to believe: `Graphs` and `Orders`. `Walks` and `Stages` have words of the proofs.
pub mod Graphs
pub mod Orders
pub mod Walks
pub mod Stages
