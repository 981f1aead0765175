use Rattle.std.proofs.Common.{ℕ, ◌<◌}
use Rattle.std.specs.List.{AllZip}
use Rattle.rst_value.specs.Terns.{StandsFor}
use Rattle.rst_pair.specs.Hops.{cube_at}
use Rattle.rst_landing.proofs.model.first_holding.Given as goal

abbrev pub invariant-loop-i : goal.invariant-loop-i
invariant-loop-i l = (j : ℕ) → j < l.i → AllZip StandsFor (cube_at l.hops j) l.both → ⊥
