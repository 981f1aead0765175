use Rattle.std.proofs.Common.{◌≡◌, ◌-◌, drop}
use Rattle.rst_net.specs.Statements.{plain_arms}
use Rattle.rst_statement_gates.specs.Marks.{arm_marks, chain_marks, Ascend}
use Rattle.rst_statement_gates.specs.Plain.{plain_default}
use Rattle.rst_statement_gates.proofs.marks.chain_of.Given as goal

abbrev pub invariant-loop-i : goal.invariant-loop-i
invariant-loop-i l = record {
  chain : l.chain ≡ chain_marks l.count (plain_arms (drop (l.number - l.i) l.arms)) (plain_default l.otherwise);
  marks : l.marks.items ≡ arm_marks l.count (plain_arms (drop (l.number - l.i) l.arms)) (plain_default l.otherwise);
  ascend : Ascend 0 l.count l.marks.items;
}
