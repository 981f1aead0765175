use Rattle.std.proofs.Common.{◌-◌, take}
use Rattle.rst_statement_gates.proofs.Merging.{BehindLeft}
use Rattle.rst_statement_gates.proofs.waiting.merge_all.Given as goal

abbrev pub invariant-loop-i : goal.invariant-loop-i
invariant-loop-i l = BehindLeft l.fn.gates l.fn.wires l.waiting.items l.gates l.wires (take (l.number - l.i) l.waiting.items)
