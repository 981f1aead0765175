use Rattle.std.proofs.lemmas.Result.{err_from_is_err_and}
use Rattle.rst_tree.specs.Modules.{plain_assign}
use Rattle.rst_width.specs.Scopes.{names_of}
use Rattle.rst_names.proofs.Turns.{read}
use Rattle.rst_items.specs.ItemRows.{assign_faults}
use Rattle.rst_items.proofs.Rounds.{faults_stop}
use Rattle.rst_units.proofs.items.push_assigns.Goals as goal

pub returns-in_err-push_set-clause-refused : goal.returns-in_err-push_set-clause-refused
returns-in_err-push_set-clause-refused c =
    let xs = c.args.assigns.now in
    let i = c.loop-assign.assign-index in
    let x = c.assign-item.result in
    let p = err_from_is_err_and c.from_residual.result c.from_residual.ensures.1 in
    rw (p.1, p.2) (faults_stop plain_assign xs i x
    (read xs i x c.loop-assign-test.true c.assign-item.is)
    (assign_faults (names_of c.args.names.now))
    c.in_err-push_set.field-0.0 c.loop-assign.invariant.left c.in_err-push_set.ensures.refused)
