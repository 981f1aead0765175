use Rattle.std.proofs.lemmas.Result.{err_from_is_err_and}
use Rattle.rst_width.specs.Scopes.{names_with}
use Rattle.rst_instances.specs.Rows.{plain_ranged, range_faults}
use Rattle.rst_instances.proofs.TurnLemmas.{view_refuses, view_goes_on}
use Rattle.rst_instances.proofs.extents.declarations_pass.Goals as goal

pub returns-in_err-range_passes-clause-refused : goal.returns-in_err-range_passes-clause-refused
returns-in_err-range_passes-clause-refused c =
    let row = range_faults c.args.row c.args.place.now.prefix (names_with c.args.place.now.params c.args.tables.unshaped.now) in
    let p = err_from_is_err_and c.from_residual.result c.from_residual.ensures.1 in
    rw (p.1, p.2) (view_refuses plain_ranged row c.args.declarations.now c.loop-d.d-index c.d-item.result c.loop-d-test.true c.d-item.is c.loop-d.invariant c.in_err-range_passes.field-0.0 c.in_err-range_passes.ensures.refused)

pub loop-d-preserved : goal.loop-d-preserved
loop-d-preserved c =
    let row = range_faults c.args.row c.args.place.now.prefix (names_with c.args.place.now.params c.args.tables.unshaped.now) in
    view_goes_on plain_ranged row c.args.declarations.now c.loop-d.d-index c.d-item.result c.loop-d-test.true c.d-item.is c.loop-d.invariant c.in_ok-range_passes.ensures.passes
