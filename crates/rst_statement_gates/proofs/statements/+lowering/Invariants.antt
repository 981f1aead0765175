use Rattle.std.proofs.Common.{◌≡◌, ◌-◌, drop, length}
use Rattle.rst_net.specs.Statements.{plain_stmts, plain_arms}
use Rattle.rst_lower.specs.WireWords.{widths_of}
use Rattle.rst_statement_gates.specs.Sights.{sight_of}
use Rattle.rst_statement_gates.specs.Plain.{plain_default}
use Rattle.rst_statement_gates.specs.Marks.{chain_marks}
use Rattle.rst_statement_gates.specs.Chains.{case_bits, ArmsLeft}
use Rattle.rst_statement_gates.proofs.Steps.{AllLeft}
use Rattle.rst_statement_gates.proofs.statements.+lowering.Given as goal

abbrev pub invariant-all-loop-part : goal.invariant-all-loop-part
invariant-all-loop-part l = AllLeft l.clocked l.held l.fn.gates l.fn.wires (plain_stmts l.parts) l.gates l.wires (plain_stmts (drop l.part-index l.parts))

abbrev pub invariant-arms-loop-arm : goal.invariant-arms-loop-arm
invariant-arms-loop-arm l = record {
  left : l.left ≡ length l.arms - l.arm-index;
  chain : l.chain ≡ chain_marks (length l.fn.wires) (plain_arms (drop l.arm-index l.arms)) (plain_default l.otherwise);
  state : ArmsLeft l.clocked l.held l.selector l.full (plain_default l.otherwise) (case_bits (length l.fn.wires) (plain_arms l.arms) (plain_default l.otherwise))
      l.fn.gates l.fn.wires (plain_arms l.arms) l.gates l.wires (plain_arms (drop l.arm-index l.arms)) l.waiting.items;
}

-- each call goes a level down
abbrev pub decreases-first_branch : goal.decreases-first_branch
decreases-first_branch l = l.deep

abbrev pub decreases-statement : goal.decreases-statement
decreases-statement l = l.deep

abbrev pub decreases-all : goal.decreases-all
decreases-all l = l.deep

abbrev pub decreases-case_statement : goal.decreases-case_statement
decreases-case_statement l = l.deep

abbrev pub decreases-default : goal.decreases-default
decreases-default l = l.deep

abbrev pub decreases-arms : goal.decreases-arms
decreases-arms l = l.deep
