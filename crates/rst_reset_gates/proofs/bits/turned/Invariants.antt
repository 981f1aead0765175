use Rattle.std.proofs.Common.{◌≡◌, ◌-◌, drop, length}
use Rattle.rst_design_terms.specs.Designs.{turned}
use Rattle.rst_reset_gates.proofs.bits.turned.Given as goal

abbrev pub invariant-loop-k : goal.invariant-loop-k
invariant-loop-k l = l.bits.items ≡ turned (drop (length l.word - l.k) l.word)
