-- Read these: what is proved of expressions rests on them.
pub mod Expressions
pub mod Weights
-- Words of the laws.
pub mod Valuations
