-- Blocked hops, exact relations, and the work of splitting.
pub mod Blocking
pub mod Refining
pub mod Answers
-- How the code refines.
pub mod Turns
