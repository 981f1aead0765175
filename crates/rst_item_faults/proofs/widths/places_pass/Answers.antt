use Rattle.rst_names.proofs.Turns.{read}
use Rattle.rst_names.proofs.RowLemmas.{row_goes_on}
use Rattle.rst_items.specs.ItemRows.{width_row}
use Rattle.rst_items.specs.Tables.{at_place}
use Rattle.rst_item_faults.proofs.widths.places_pass.Goals as goal

pub loop-located-preserved : goal.loop-located-preserved
loop-located-preserved c =
    let xs = c.args.all.now in
    let i = c.loop-located.located-index in
    let x = c.located-item.result in
    row_goes_on (at_place width_row c.args.whole.now) xs i x (read xs i x c.loop-located-test.true c.located-item.is) c.loop-located.invariant c.in_ok-place_passes.ensures.passes
