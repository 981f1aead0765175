use Rattle.std.proofs.Common.{◌≡◌, ℕ, ◌<◌, List, length}
use Rattle.std.specs.Prelude.{slice_index_or}
use Rattle.rst_value.specs.declared.tern.Tern.{Tern}
use Rattle.rst_pose.proofs.limits.is_pattern.Given as goal

abbrev pub invariant-loop-places : goal.invariant-loop-places
invariant-loop-places l = (j : ℕ) (d : List Tern) → j < l.places-index → length (slice_index_or l.pattern j d) ≡ l.inputs
