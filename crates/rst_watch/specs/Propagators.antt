-- What a propagator is.
use Rattle.std.specs.Prelude.{◌≡◌, ℕ, ℤ, List, length}
use Rattle.rst_clause.specs.Trails.{Trail'}

-- The clauses, what stands, how many of these literals were propagated, and how many stood below each level that
-- is open, the last level first.
pub record Propagator' : Type 0 where
  pub clauses : List (List ℤ)
  pub trail : Trail'
  pub done : ℕ
  pub floors : List ℕ

-- all that stands was propagated
abbrev pub IsSettled : Propagator' → Type 0
IsSettled p = p.done ≡ length p.trail.lits
