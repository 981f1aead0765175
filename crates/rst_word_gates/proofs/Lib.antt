pub mod Turns
pub mod Meaning
