-- What is decided of a pattern, and its evidence.
pub mod Decisions
-- The verdicts, each on its evidence.
pub mod Verdicts
-- How the code decides.
pub mod Deciding
