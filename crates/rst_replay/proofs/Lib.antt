-- Lemmas by topic.
pub mod Reading
pub mod Apart
