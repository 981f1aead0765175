-- All of these are what a reader has to believe: words and their numbers, what the operators give, and how a word of the code is seen.
pub mod Words
pub mod Unary
pub mod Binary
pub mod Plain
