use Rattle.std.proofs.Common.{◌≡◌, ℕ, ◌+◌, ◌<◌, true, false}
use Rattle.std.specs.Prelude.{slice_index_or}
use Rattle.rst_pair.proofs.front.agree_on.Given as goal

abbrev pub invariant-loop-i : goal.invariant-loop-i
invariant-loop-i l =
    (j : ℕ) → j < l.i → slice_index_or l.equal j false ≡ true → slice_index_or l.both j false ≡ slice_index_or l.both (l.count + j) false
