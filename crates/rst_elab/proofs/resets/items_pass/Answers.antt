use Rattle.std.proofs.Common.{sym}
use Rattle.std.proofs.lemmas.Result.{err_from_is_err_and}
use Rattle.rst_tree.specs.Modules.{plain_item}
use Rattle.rst_names.proofs.Turns.{read}
use Rattle.rst_items.specs.Tables.{seen_site}
use Rattle.rst_items.proofs.Rounds.{row_stops}
use Rattle.rst_elab.specs.ClockRows.{reset_faults_in}
use Rattle.rst_elab.proofs.FirstNames.{first_later}
use Rattle.rst_elab.proofs.resets.items_pass.Goals as goal

pub returns-in_err-item_passes-clause-refused : goal.returns-in_err-item_passes-clause-refused
returns-in_err-item_passes-clause-refused c =
    let p = err_from_is_err_and c.from_residual.result c.from_residual.ensures.1 in
    rw (p.1, p.2) (row_stops plain_item c.args.items.now c.loop-item.item-index c.item-item.result
    (read c.args.items.now c.loop-item.item-index c.item-item.result c.loop-item-test.true c.item-item.is)
    (reset_faults_in (seen_site c.args.site)) c.in_err-item_passes.field-0.0 c.loop-item.invariant c.in_err-item_passes.ensures.refused)

pub loop-item-preserved : goal.loop-item-preserved
loop-item-preserved c =
    first_later plain_item (reset_faults_in (seen_site c.args.site)) c.args.items.now c.loop-item.item-index c.item-item.result
    (read c.args.items.now c.loop-item.item-index c.item-item.result c.loop-item-test.true c.item-item.is) c.loop-item.invariant (sym c.in_ok-item_passes.ensures.passes)
