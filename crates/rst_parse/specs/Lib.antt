-- A reader has to believe these: how terminals are spelled, what a token is to the grammar, how a text is cut, and what it is
-- parsed as.
pub mod Spelling
pub mod Symbols
pub mod Pieces
pub mod Parsing
-- These are words of proofs.
pub mod Beside
pub mod Separators
