-- Lemmas by topic.
pub mod Meaning
pub mod Frames
pub mod Cubes
pub mod Bits
pub mod Runs
pub mod Demands
pub mod Cases
pub mod Asked
pub mod Starts
pub mod Exact
pub mod Solutions
