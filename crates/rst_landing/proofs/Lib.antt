-- Lemmas by topic.
pub mod Entries
pub mod Working
pub mod Ends
pub mod Cases
pub mod Found
pub mod Answering
