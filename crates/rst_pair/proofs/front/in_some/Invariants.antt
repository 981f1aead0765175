use Rattle.std.proofs.Common.{ℕ, ◌<◌, []}
use Rattle.std.specs.Prelude.{slice_index_or}
use Rattle.std.specs.List.{AllZip}
use Rattle.rst_value.specs.Terns.{StandsFor}
use Rattle.rst_pair.specs.Hops.{cubes_of}
use Rattle.rst_pair.proofs.front.in_some.Given as goal

abbrev pub invariant-loop-hop : goal.invariant-loop-hop
invariant-loop-hop l = (j : ℕ) → j < l.hop-index → AllZip StandsFor (slice_index_or (cubes_of l.hops) j []) l.both → ⊥
