-- Read these: what is proved rests on them.
pub mod Algebras
pub mod Numbers
pub mod Recurrences
pub mod Operators
pub mod Weights
-- Words of the laws.
pub mod Spelling
