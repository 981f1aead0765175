use Rattle.std.proofs.lemmas.Result.{err_from_is_err_and}
use Rattle.rst_width.specs.Scopes.{names_of}
use Rattle.rst_names.proofs.Turns.{read}
use Rattle.rst_instances.specs.Tables.{plain_linked}
use Rattle.rst_items.specs.ItemRows.{link_faults}
use Rattle.rst_items.specs.Tables.{seen_site}
use Rattle.rst_items.proofs.Rounds.{faults_stop}
use Rattle.rst_units.proofs.items.push_links.Goals as goal

pub returns-in_err-push_link-clause-refused : goal.returns-in_err-push_link-clause-refused
returns-in_err-push_link-clause-refused c =
    let xs = c.args.links.now in
    let i = c.loop-link.link-index in
    let x = c.link-item.result in
    let p = err_from_is_err_and c.from_residual.result c.from_residual.ensures.1 in
    rw (p.1, p.2) (faults_stop plain_linked xs i x
    (read xs i x c.loop-link-test.true c.link-item.is)
    (link_faults (names_of c.args.names.now) (seen_site c.args.inner))
    c.in_err-push_link.field-0.0 c.loop-link.invariant.left c.in_err-push_link.ensures.refused)
