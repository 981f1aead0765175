use Rattle.std.proofs.lemmas.Result.{err_from_is_err_and}
use Rattle.rst_tree.specs.Modules.{plain_net_name}
use Rattle.rst_width.specs.Scopes.{names_of}
use Rattle.rst_names.proofs.Turns.{read}
use Rattle.rst_items.specs.ItemRows.{wire_faults}
use Rattle.rst_items.proofs.Rounds.{faults_stop}
use Rattle.rst_units.proofs.items.push_wires.Goals as goal

pub returns-in_err-push_wire-clause-refused : goal.returns-in_err-push_wire-clause-refused
returns-in_err-push_wire-clause-refused c =
    let xs = c.args.nets.now in
    let i = c.loop-net.net-index in
    let x = c.net-item.result in
    let p = err_from_is_err_and c.from_residual.result c.from_residual.ensures.1 in
    rw (p.1, p.2) (faults_stop plain_net_name xs i x
    (read xs i x c.loop-net-test.true c.net-item.is)
    (wire_faults (names_of c.args.names.now))
    c.in_err-push_wire.field-0.0 c.loop-net.invariant.left c.in_err-push_wire.ensures.refused)
