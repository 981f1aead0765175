use Rattle.std.proofs.Common.{◌++◌, map}
use Rattle.std.specs.List.{flat_map}
use Rattle.rst_net.specs.Units.{plain_driver, plain_process}
use Rattle.rst_names.proofs.Turns.{read}
use Rattle.rst_names.proofs.RowLemmas.{row_goes_on}
use Rattle.rst_items.specs.Items.{unit_row, clocked_row}
use Rattle.rst_items.specs.ItemRows.{fault_row}
use Rattle.rst_items.specs.Tables.{at_place}
use Rattle.rst_items.proofs.Rounds.{push_further}
use Rattle.rst_units.proofs.items.push_places.Goals as goal

pub loop-located-preserved : goal.loop-located-preserved
loop-located-preserved c =
    let xs = c.args.all.now in
    let i = c.loop-located.located-index in
    let x = c.located-item.result in
    let is = read xs i x c.loop-located-test.true c.located-item.is in
    record {
      units = push_further xs i x is (at_place unit_row c.args.whole.now) (map plain_driver c.loop-located.made.units.items) (map plain_driver c.push_place.new.made.units.items)
          (map plain_driver c.args.made.now.units.items ++ flat_map (at_place unit_row c.args.whole.now) xs) c.loop-located.invariant.units c.in_ok-push_place.ensures.units;
      clocked = push_further xs i x is (at_place clocked_row c.args.whole.now) (map plain_process c.loop-located.made.clocked.items) (map plain_process c.push_place.new.made.clocked.items)
          (map plain_process c.args.made.now.clocked.items ++ flat_map (at_place clocked_row c.args.whole.now) xs) c.loop-located.invariant.clocked c.in_ok-push_place.ensures.clocked;
      left = row_goes_on (at_place fault_row c.args.whole.now) xs i x is c.loop-located.invariant.left c.in_ok-push_place.ensures.passes;
    }
