use Rattle.std.proofs.Common.{arith}
use Rattle.rst_names.proofs.Turns.{read}
use Rattle.rst_names.proofs.RowLemmas.{row_goes_on}
use Rattle.rst_items.specs.Tables.{at_place}
use Rattle.rst_elab.specs.ClockRows.{reset_row}
use Rattle.rst_elab.proofs.resets.places_pass.Goals as goal

pub loop-located-preserved : goal.loop-located-preserved
loop-located-preserved c =
    row_goes_on (at_place reset_row c.args.whole.now) c.args.all.now c.loop-located.located-index c.located-item.result
    (read c.args.all.now c.loop-located.located-index c.located-item.result (omega arith) c.located-item.is) c.loop-located.invariant c.in_ok-place_passes.ensures.passes
