-- Pairs of states, hops between cubes of pairs, and what widening answers.
pub mod Sides
pub mod Aims
pub mod Hops
pub mod Fronts
-- Queries about pairs, and the lists and sequences that searches answer.
pub mod Queries
pub mod Searches
