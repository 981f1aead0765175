use Rattle.std.proofs.Common.{arith}
use Rattle.rst_gate.specs.GateLists.{next_node}
use Rattle.rst_net.specs.Statements.{plain_set}
use Rattle.rst_statement_gates.proofs.Merging.{wires_later}
use Rattle.rst_statement_gates.proofs.Steps.{set_result}
use Rattle.rst_statement_gates.proofs.statements.set.Goals as goal

pub returns-clause-stand : goal.returns-clause-stand
returns-clause-stand c =
    set_result c.put_target.result (next_node c.read.new.gates) (plain_set c.args.set.now).target c.in_ok-value.value.items c.as_slice-2.result.now c.args.wires.now c.put_target.new.wires
    (rw c.as_slice.ensures.value at c.put_target.ensures) c.as_slice-2.ensures.value
    (wires_later (next_node c.args.gates.now) (next_node c.read.new.gates) c.args.wires.now c.in_ok-value.ensures.grows c.requires.are.stand) c.in_ok-value.ensures.stand
