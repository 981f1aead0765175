-- What a reader has to believe: both, but for `HasGates`, `Runs` and `Answers`, which are words of the proofs.
pub mod Run
pub mod Promises
