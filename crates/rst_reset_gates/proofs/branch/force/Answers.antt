use Rattle.std.proofs.Common.{arith, sym, subst}
use Rattle.rst_gate.specs.GateLists.{next_node}
use Rattle.rst_net.specs.Statements.{plain_stmt}
use Rattle.rst_lower.specs.WireWords.{WiresStand}
use Rattle.rst_reset_gates.proofs.Blanks.{blank_stands}
use Rattle.rst_reset_gates.proofs.Branches.{forced_result}
use Rattle.rst_reset_gates.proofs.branch.force.Goals as goal

pub clocked-requires-clause-stand : goal.clocked-requires-clause-stand
clocked-requires-clause-stand c =
    let n = next_node c.in_ok-gates.gates in
    subst (WiresStand n) (sym c.requires.same) (blank_stands n c.args.blank.now (omega arith) c.requires.blank)

pub clocked-requires-clause-held_stand : goal.clocked-requires-clause-held_stand
clocked-requires-clause-held_stand c = blank_stands (next_node c.in_ok-gates.gates) c.args.blank.now (omega arith) c.requires.blank

pub returns : goal.returns
returns c =
    forced_result c.clocked.result c.in_ok-gates.gates c.args.blank.now c.args.wires.now c.clocked.new.wires (plain_stmt c.args.branch.now) c.requires.same c.requires.blank c.requires.fit c.clocked.ensures.wires
