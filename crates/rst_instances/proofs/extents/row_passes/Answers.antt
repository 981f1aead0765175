use Rattle.std.proofs.lemmas.Result.{err_from_is_err_and}
use Rattle.rst_instances.specs.Rows.{row_faults}
use Rattle.rst_instances.specs.Tables.{plain_place, IsPlace}
use Rattle.rst_instances.proofs.TurnLemmas.{all_at, view_refuses, view_goes_on}
use Rattle.rst_instances.proofs.extents.row_passes.Goals as goal

pub returns-in_err-instance_passes-clause-refused : goal.returns-in_err-instance_passes-clause-refused
returns-in_err-instance_passes-clause-refused c =
    let ps = c.args.places.now in
    let i = c.loop-place.place-index in
    let x = c.place-item.result in
    let p = err_from_is_err_and c.from_residual.result c.from_residual.ensures.1 in
    rw (p.1, p.2) (λ modules h all.
    view_refuses (plain_place modules) (row_faults c.args.row) ps i x c.loop-place-test.true c.place-item.is (c.loop-place.invariant modules h all) c.in_err-instance_passes.field-0.0
    (c.in_err-instance_passes.ensures.refused modules h (all_at (IsPlace modules) ps i x all c.loop-place-test.true c.place-item.is)))

pub loop-place-preserved : goal.loop-place-preserved
loop-place-preserved c = λ modules h all.
    let ps = c.args.places.now in
    let i = c.loop-place.place-index in
    let x = c.place-item.result in
    view_goes_on (plain_place modules) (row_faults c.args.row) ps i x c.loop-place-test.true c.place-item.is (c.loop-place.invariant modules h all)
    (c.in_ok-instance_passes.ensures.passes modules h (all_at (IsPlace modules) ps i x all c.loop-place-test.true c.place-item.is))
