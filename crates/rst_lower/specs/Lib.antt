-- Read these: the gates of an expression are its terms over the gates so far.
pub mod WireWords
-- Words of the laws.
pub mod ExpressionLaws
