use Rattle.std.proofs.Common.{true, false}
use Rattle.rst_gate.specs.GateLists.{next_node}
use Rattle.rst_net.specs.Statements.{Set, plain_set}
use Rattle.rst_statement_gates.proofs.Ends.{are_combinational, result_widths, result_count}
use Rattle.rst_statement_gates.proofs.statements.assign.Goals as goal

pub set-requires-clause-are : goal.set-requires-clause-are
set-requires-clause-are c = are_combinational (next_node c.args.gates.now) c.new-none.result c.args.wires.now c.requires.stand c.requires.at_most_64

pub returns-clause-widths : goal.returns-clause-widths
returns-clause-widths c =
    result_widths c.set.result (next_node c.args.gates.now) false c.new-none.result c.args.wires.now c.set.new.wires c.args.gates.now (Set (plain_set c.args.one.now))
    (are_combinational (next_node c.args.gates.now) c.new-none.result c.args.wires.now c.requires.stand c.requires.at_most_64)
    c.requires.fit c.set.ensures.wires

pub returns-clause-count : goal.returns-clause-count
returns-clause-count c =
    result_count c.set.result (next_node c.args.gates.now) false c.new-none.result c.args.wires.now c.set.new.wires c.args.gates.now (Set (plain_set c.args.one.now))
    (are_combinational (next_node c.args.gates.now) c.new-none.result c.args.wires.now c.requires.stand c.requires.at_most_64)
    c.requires.fit c.set.ensures.wires
