-- This is a word of proofs; what a reader has to believe stands in rst_items.
pub mod Sets
