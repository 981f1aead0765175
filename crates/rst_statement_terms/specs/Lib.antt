-- Read these: what is proved of statements rests on them.
pub mod Targets
pub mod Statements
pub mod Weights
-- Words of the laws.
pub mod StatementLaws
