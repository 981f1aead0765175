-- What callers see of a solver, and the shape of what it finds.
use Rattle.std.specs.Prelude.{◌≡◌, ℕ, length}
use Rattle.rst_cdcl.specs.declared.solver.Outcome.{Outcome}
use Rattle.rst_cdcl.specs.declared.solver.Outcome.TheVariants.{Model, Refuted, GaveUp}

-- the greatest variable, and how many conflicts were learnt from
pub record Solver' : Type 0 where
  pub vars : ℕ
  pub conflicts : ℕ

-- a model has a value for each variable
abbrev pub HasWidth : ℕ → Outcome → Type 0
HasWidth vars (Model bits) = length bits.items ≡ vars
HasWidth vars (Refuted core) = Unit {0}
HasWidth vars GaveUp = Unit {0}
