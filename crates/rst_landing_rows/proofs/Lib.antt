-- Lemmas by topic.
pub mod Splits
