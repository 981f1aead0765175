use Rattle.std.proofs.Common.{◌≡◌, drop}
use Rattle.std.specs.List.{flat_map}
use Rattle.rst_names.specs.Faults.{first}
use Rattle.rst_items.specs.ItemRows.{width_row}
use Rattle.rst_items.specs.Tables.{at_place}
use Rattle.rst_item_faults.proofs.widths.places_pass.Given as goal

-- what is left has the first fault of all
abbrev pub invariant-loop-located : goal.invariant-loop-located
invariant-loop-located l =
    first (flat_map (at_place width_row l.whole) (drop l.located-index l.all))
    ≡ first (flat_map (at_place width_row l.whole) l.all)
