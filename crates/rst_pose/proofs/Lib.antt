-- Lemmas by topic.
pub mod Growing
pub mod Turns
pub mod Askings
pub mod Words
pub mod Elements
