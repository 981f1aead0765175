-- What is put whole is put as a prefix, and so is nothing.
use Rattle.std.proofs.Common.{List, ℕ, length, Option}
use Rattle.std.proofs.Math.Seq.{take-length}
use Rattle.std.specs.Io.KnownBytes.{Appends}
use Rattle.rst_outside.specs.Causes.{AppendsPrefix}

-- a whole piece is a prefix of itself
pub whole_is_prefix : (old new : Option (List ℕ)) (piece : List ℕ) → Appends old new piece → AppendsPrefix old new piece
whole_is_prefix old new piece whole = (length piece, rw (take-length piece) whole)
