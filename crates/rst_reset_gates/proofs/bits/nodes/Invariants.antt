use Rattle.std.proofs.Common.{◌≡◌, ◌+◌, ◌-◌}
use Rattle.rst_design_terms.specs.Designs.{turned}
use Rattle.rst_design_terms.specs.Gates.{nodes_from}
use Rattle.rst_reset_gates.proofs.bits.nodes.Given as goal

abbrev pub invariant-loop-k : goal.invariant-loop-k
invariant-loop-k l = l.bits.items ≡ turned (nodes_from (l.first + (l.width - l.k)) l.k)
