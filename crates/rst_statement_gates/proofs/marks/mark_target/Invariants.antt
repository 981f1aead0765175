use Rattle.std.proofs.Common.{◌≡◌, drop}
use Rattle.rst_statement_gates.specs.Marks.{mark_target, Ascend}
use Rattle.rst_statement_gates.proofs.marks.mark_target.Given as goal

abbrev pub invariant-loop-slice : goal.invariant-loop-slice
invariant-loop-slice l = record {
  run : mark_target l.count (drop l.slice-index l.target) l.marks.items ≡ mark_target l.count l.target l.fn.marks.items;
  ascend : Ascend 0 l.count l.marks.items;
}
