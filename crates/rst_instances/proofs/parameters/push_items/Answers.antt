use Rattle.std.proofs.Common.{◌+◌, List, drop, map, sym, ap, ◌∙◌}
use Rattle.std.specs.List.{flat_map}
use Rattle.rst_tree.specs.Modules.{plain_item}
use Rattle.rst_names.specs.Declarations.{item_params}
use Rattle.rst_names.proofs.Turns.{at, read}
use Rattle.rst_instances.specs.Parameters.{Valued, values_of_decls}
use Rattle.rst_instances.specs.Settings.{values_in}
use Rattle.rst_instances.proofs.ValueLemmas.{values_of_decls-append}
use Rattle.rst_instances.proofs.parameters.push_items.Goals as goal

pub loop-item-preserved : goal.loop-item-preserved
loop-item-preserved c =
    let xs = c.args.items.now in
    let i = c.loop-item.item-index in
    let x = c.item-item.result in
    let is = read xs i x c.loop-item-test.true c.item-item.is in
    let rest = flat_map item_params (map plain_item (drop (i + 1) xs)) in
    record {
      known = λ old. c.in_ok-push_item.ensures.known (c.loop-item.invariant.known old);
      added = λ m outside links set old.
          ap (λ (vs : List Valued). values_of_decls m outside links vs rest) (c.in_ok-push_item.ensures.added m outside links set (c.loop-item.invariant.known old))
          ∙ sym (values_of_decls-append m outside links (values_in c.loop-item.made) (item_params (plain_item x)) rest)
          ∙ ap (λ l. values_of_decls m outside links (values_in c.loop-item.made) (flat_map item_params (map plain_item l))) (sym (at xs i x is).back)
          ∙ c.loop-item.invariant.added m outside links set old;
    }
