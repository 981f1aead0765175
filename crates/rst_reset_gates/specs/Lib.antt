-- Words of the contracts; nothing that a reader has to believe beyond the definitions of the crates below.
-- The wires before any gate, by the numbers of their nodes.
pub mod NodeWords
-- The table of resets, and how it is filled.
pub mod Tables
-- How many bits have a reset.
pub mod Counts
