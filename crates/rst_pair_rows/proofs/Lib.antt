-- Lemmas by topic.
pub mod Pairs
