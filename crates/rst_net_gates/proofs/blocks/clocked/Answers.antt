use Rattle.std.proofs.Common.{◌+◌, ◌≤◌, arith, ap, map, subst, length, ◌∙◌}
use Rattle.rst_gate.specs.GateLists.{next_node}
use Rattle.rst_net.specs.declared.stmt.TypedStmt.{TypedStmt}
use Rattle.rst_net.specs.Statements.{plain_stmt}
use Rattle.rst_net.specs.Units.{plain_process}
use Rattle.rst_word_gates.specs.GateAlgebra.{gates_so_far}
use Rattle.rst_lower.specs.WireWords.{widths_of}
use Rattle.rst_statement_terms.specs.Statements.{Held, statement_bits}
use Rattle.rst_statement_terms.specs.Weights.{statement_weight}
use Rattle.rst_statement_gates.proofs.Merging.{wires_later}
use Rattle.rst_net_gates.proofs.Left.{clocked_turn}
use Rattle.rst_net_gates.proofs.blocks.clocked.Goals as goal

pub loop-process-preserved : goal.loop-process-preserved
loop-process-preserved c =
    let e = c.deref.ensures in
    let S = c.args.settled.now in
    let g = c.loop-process.gates in
    let ws = c.loop-process.wires in
    clocked_turn S c.args.gates.now c.args.wires.now (map plain_process c.args.processes.now) g c.clocked.new.gates ws c.clocked.new.wires c.args.processes.now c.loop-process.process-index c.process-item.result
    (omega arith) c.process-item.is c.loop-process.invariant
    (c.in_ok-clocked.ensures.gates ∙ ap (λ (s : TypedStmt). (statement_bits gates_so_far (Held S) g ws (plain_stmt s)).0) e)
    (c.in_ok-clocked.ensures.wires ∙ ap (λ (s : TypedStmt). (statement_bits gates_so_far (Held S) g ws (plain_stmt s)).1) e)
    c.in_ok-clocked.ensures.stand (wires_later (next_node g) (next_node c.clocked.new.gates) S c.in_ok-clocked.ensures.grows c.loop-process.invariant.settled_stand)
    c.in_ok-clocked.ensures.widths c.in_ok-clocked.ensures.count c.in_ok-clocked.ensures.grows
    (subst (λ (s : TypedStmt). next_node c.clocked.new.gates ≤ next_node g + statement_weight (widths_of ws) (length ws) (plain_stmt s)) e c.in_ok-clocked.ensures.few)
