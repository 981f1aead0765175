use Rattle.std.proofs.Common.{true, false}
use Rattle.rst_gate.specs.GateLists.{next_node}
use Rattle.rst_net.specs.Statements.{plain_stmt}
use Rattle.rst_statement_gates.proofs.Ends.{are_clocked, result_widths, result_count}
use Rattle.rst_statement_gates.proofs.statements.clocked.Goals as goal

pub statement-requires-clause-are : goal.statement-requires-clause-are
statement-requires-clause-are c = are_clocked (next_node c.args.gates.now) c.args.held.now c.args.wires.now c.requires.stand c.requires.at_most_64 c.requires.held_stand c.requires.widths

pub returns-clause-widths : goal.returns-clause-widths
returns-clause-widths c =
    result_widths c.statement.result (next_node c.args.gates.now) true c.args.held.now c.args.wires.now c.statement.new.wires c.args.gates.now (plain_stmt c.args.stmt.now)
    (are_clocked (next_node c.args.gates.now) c.args.held.now c.args.wires.now c.requires.stand c.requires.at_most_64 c.requires.held_stand c.requires.widths)
    c.requires.fit c.statement.ensures.wires

pub returns-clause-count : goal.returns-clause-count
returns-clause-count c =
    result_count c.statement.result (next_node c.args.gates.now) true c.args.held.now c.args.wires.now c.statement.new.wires c.args.gates.now (plain_stmt c.args.stmt.now)
    (are_clocked (next_node c.args.gates.now) c.args.held.now c.args.wires.now c.requires.stand c.requires.at_most_64 c.requires.held_stand c.requires.widths)
    c.requires.fit c.statement.ensures.wires
