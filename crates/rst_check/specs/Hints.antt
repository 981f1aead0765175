-- Hints for the lines of a log.
use Rattle.std.specs.Prelude.{ℕ, ◌≤◌, List, length, slice_range, slice_index_or}
use Rattle.rst_clause.specs.Parts.{begin_of, AreEnds}

-- the numbers one after another, and the places where those of each line end
pub record Hints' : Type 0 where
  pub numbers : List ℕ
  pub ends : List ℕ

-- the places rise and lie among the numbers
abbrev pub AreRising : List ℕ → List ℕ → Type 0
AreRising numbers ends = (last : ℕ) × AreEnds 0 ends last × (last ≤ length numbers)

-- the numbers of a line: none behind the last
abbrev pub numbers_at : List ℕ → List ℕ → ℕ → List ℕ
numbers_at numbers ends line = slice_range numbers (begin_of 0 ends line) (slice_index_or ends line 0)
