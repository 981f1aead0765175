-- What a reader has to believe: all but `Tables` and `Ranking`, which have words of the proofs.
pub mod Edges
pub mod Nets
pub mod Flows
pub mod Results
pub mod Tables
pub mod Ranking
