use Rattle.std.proofs.Common.{◌≡◌, drop}
use Rattle.rst_net.specs.Statements.{plain_stmts, plain_arms}
use Rattle.rst_statement_gates.specs.Marks.{mark_all, mark_arms, Ascend}
use Rattle.rst_statement_gates.proofs.marks.+marking.Given as goal

-- what is left completes the marks
abbrev pub invariant-mark_all-loop-part : goal.invariant-mark_all-loop-part
invariant-mark_all-loop-part l = record {
  run : mark_all l.count (plain_stmts (drop l.part-index l.parts)) l.marks.items ≡ mark_all l.count (plain_stmts l.parts) l.initial.marks.items;
  ascend : Ascend 0 l.count l.marks.items;
}

abbrev pub invariant-mark_arms-loop-arm : goal.invariant-mark_arms-loop-arm
invariant-mark_arms-loop-arm l = record {
  run : mark_arms l.count (plain_arms (drop l.arm-index l.arms)) l.marks.items ≡ mark_arms l.count (plain_arms l.arms) l.initial.marks.items;
  ascend : Ascend 0 l.count l.marks.items;
}
