use Rattle.std.proofs.Common.{drop}
use Rattle.rst_reset_gates.proofs.TableLemmas.{Cleared}
use Rattle.rst_reset_gates.proofs.branch.clear.Given as goal

abbrev pub invariant-loop-slice : goal.invariant-loop-slice
invariant-loop-slice l = Cleared l.blank l.wires (drop l.slice-index l.slices)
