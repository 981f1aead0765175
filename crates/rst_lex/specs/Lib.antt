-- To know what `lex`, `line_of` and the laws promise, believe these, lowest first.
pub mod Bytes
pub mod Lines
pub mod Words
pub mod Marks
pub mod Numbers
pub mod Literals
pub mod Gaps
pub mod Tokens
pub mod Lexing
-- The others are words of the proofs: what the code finds at the front of a text. No public clause names them.
pub mod MarkFronts
pub mod Fronts
pub mod Pieces
