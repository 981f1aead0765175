pub mod TurnedWords
pub mod NodeLemmas
pub mod Blanks
pub mod Branches
pub mod TableLemmas
pub mod Registers
