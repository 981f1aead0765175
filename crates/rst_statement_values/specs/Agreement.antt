-- Bits of the signals that spell how far a block has come.
use Rattle.std.specs.Prelude.{◌≡◌, ℕ, Bool}
use Rattle.rst_cycle.specs.Effects.{Progress}
use Rattle.rst_typed_terms.specs.Valuations.{AreSpelled}
use Rattle.rst_statement_terms.specs.Targets.{Words, word_of}
use Rattle.rst_statement_terms.specs.Statements.{Sight, Held, Current}

-- what reads see is spelled by the bits that a clocked block begins with; in a combinational one it is what was set last
abbrev pub Sees : (ℕ → ℕ) → Sight Bool → Progress → Type 0
Sees room (Held words) p = AreSpelled room (word_of words) p.seen
Sees room Current p = p.seen ≡ p.last

-- the signals' bits spell the last values, and what reads see is as it should be
pub record Agrees (room : ℕ → ℕ) (sight : Sight Bool) (words : Words Bool) (p : Progress) : Type 0 where
  pub last : AreSpelled room (word_of words) p.last
  pub sees : Sees room sight p
