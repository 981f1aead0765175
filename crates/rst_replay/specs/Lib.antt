-- The words of blocked hops, and what they say of a pattern.
pub mod Words
pub mod Refutations
