use Rattle.std.proofs.Common.{◌≡◌, ℕ, ◌<◌, Bool, List, length}
use Rattle.std.specs.Prelude.{slice_index_or}
use Rattle.rst_pose.proofs.limits.is_word.Given as goal

abbrev pub invariant-loop-input : goal.invariant-loop-input
invariant-loop-input l = (j : ℕ) (d : List Bool) → j < l.input-index → length (slice_index_or l.word j d) ≡ l.inputs
