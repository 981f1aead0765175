-- What the solver answers of the posed query, and how its bits are read.
use Rattle.std.specs.Prelude.{◌≡◌, ℕ, ◌+◌, ◌<◌, Bool, List, length, take, drop}
use Rattle.std.specs.List.{AllZip}
use Rattle.rst_value.specs.declared.tern.Tern.{Tern}
use Rattle.rst_value.specs.Terns.{StandsFor}
use Rattle.rst_gate.specs.Patterns.{filled}
use Rattle.rst_pair.specs.declared.hop.Hop.{Hop}
use Rattle.rst_pair.specs.declared.query.Query.TheVariants.{LandFree}
use Rattle.rst_pair.specs.Sides.{Sides}
use Rattle.rst_pair.specs.Fronts.{Front'}
use Rattle.rst_pair.specs.Hops.{cube_at}
use Rattle.rst_pose.specs.Posed.{posed}
use Rattle.rst_solve.specs.declared.solver.Answer.{Answer}
use Rattle.rst_solve.specs.Answers.{AnswersTo}
use Rattle.rst_landing.specs.declared.model.Start.{Start}
use Rattle.rst_landing.specs.Landings.{land_clauses, land_variables}

-- what the solver answers
abbrev pub AnswersLand : Sides → Front' → List (List Tern) → ℕ → Answer → Type 0
AnswersLand p f pattern left answer =
    AnswersTo (posed p f (LandFree pattern)).free (land_variables p f pattern) (land_clauses p f pattern) left answer

-- the left state, then the right one, then the free bits of the pattern
pub record IsReadOf (p : Sides) (pattern : List (List Tern)) (bits : List Bool) (s : Start) : Type 0 where
  pub a : s.a ≡ take p.left.states bits
  pub b : s.b ≡ take p.right.states (drop p.left.states bits)
  pub fill : s.fill ≡ filled pattern (drop (p.left.states + p.right.states) bits)

-- the first hop whose cube holds the bits of a pair
pub record IsFirstHolding (hops : List Hop) (both : List Bool) (k : ℕ) : Type 0 where
  pub below : k < length hops
  pub holds : AllZip StandsFor (cube_at hops k) both
  pub first : (j : ℕ) → j < k → AllZip StandsFor (cube_at hops j) both → ⊥
