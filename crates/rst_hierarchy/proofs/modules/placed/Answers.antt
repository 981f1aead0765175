use Rattle.std.proofs.Common.{◌++◌, map, ◌+◌}
use Rattle.std.specs.List.{flat_map}
use Rattle.rst_tree.specs.Modules.{plain_item}
use Rattle.rst_hierarchy.specs.Hierarchy.{placed_by}
use Rattle.rst_hierarchy.specs.Tables.{plain_modules, place_named, places_named}
use Rattle.rst_hierarchy.proofs.modules.placed.Goals as goal
use Rattle.std.proofs.Common.{drop, sym, ap, append_assoc, ◌∙◌}
use Rattle.std.proofs.lemmas.List.Elements.{filter_map-append}
use Rattle.rst_names.proofs.Turns.{at, read}

pub loop-item-preserved : goal.loop-item-preserved
loop-item-preserved c =
    let ms = plain_modules c.args.modules.now in
    let items = c.args.items.now in
    let i = c.loop-item.item-index in
    let item = c.item-item.result in
    let made = c.loop-item.made.items in
    let named = placed_by (plain_item item) in
    let rest = flat_map placed_by (map plain_item (drop (i + 1) items)) in
    let is = read items i item c.loop-item-test.true c.item-item.is in
    ap (λ l. l ++ places_named ms rest) c.in_ok-push_placed.ensures
    ∙ (append_assoc made (places_named ms named) (places_named ms rest)
    ∙ (ap (λ l. made ++ l) (sym (filter_map-append (place_named ms) named rest))
    ∙ (ap (λ l. made ++ places_named ms (flat_map placed_by (map plain_item l))) (sym (at items i item is).back)
    ∙ c.loop-item.invariant)))
