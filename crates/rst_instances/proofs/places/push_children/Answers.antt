use Rattle.std.proofs.Common.{◌++◌, ◌≤◌, length, map, sym, ap, subst, arith}
use Rattle.std.proofs.lemmas.List.Elements.{All-push}
use Rattle.std.specs.List.{All}
use Rattle.rst_tree.specs.Modules.{plain_instance, plain_copied}
use Rattle.rst_instances.specs.Places.{child}
use Rattle.rst_instances.specs.Tables.{plain_place, IsPlace}
use Rattle.rst_instances.proofs.TurnLemmas.{there_at, shown_more, shown_end}
use Rattle.rst_instances.proofs.places.push_children.Goals as goal

pub loop-copy-preserved : goal.loop-copy-preserved
loop-copy-preserved c =
    let xs = c.args.instance.now.copies.items in
    let i = c.loop-copy.copy-index in
    let x = c.copy-item.result in
    let is = there_at c.deref-copy-items.result.now xs i x c.deref-copy-items.ensures.value c.loop-copy-test.true c.copy-item.is in
    let made = c.loop-copy.made.items in
    record {
      placed = λ modules m around there right.
          let f = child (plain_place modules c.args.around.place.now) (plain_instance c.args.instance.now) m in
          shown_more (plain_place modules) plain_copied f xs i x made c.push.new.self.items c.in_ok-place.place (map (plain_place modules) c.args.made.now.items ++ map f (map plain_copied xs))
          is c.in_ok-push.ensures.items (c.in_ok-place.ensures.is_child modules m around there right) (c.loop-copy.invariant.placed modules m around there right);
      right = λ modules within old.
          subst (All (IsPlace modules)) (sym c.in_ok-push.ensures.items) (All-push (IsPlace modules) made c.in_ok-place.place (c.loop-copy.invariant.right modules within old) (c.in_ok-place.ensures.right modules within));
    }

pub returns-clause-placed : goal.returns-clause-placed
returns-clause-placed c = λ modules m around there right.
    let xs = c.args.instance.now.copies.items in
    let past : length xs ≤ c.loop-copy.copy-index = omega (arith, ap length c.deref-copy-items.ensures.value) in
    let f = child (plain_place modules c.args.around.place.now) (plain_instance c.args.instance.now) m in
    shown_end plain_copied f xs c.loop-copy.copy-index (map (plain_place modules) c.loop-copy.made.items) (map (plain_place modules) c.args.made.now.items ++ map f (map plain_copied xs)) past
    (c.loop-copy.invariant.placed modules m around there right)
