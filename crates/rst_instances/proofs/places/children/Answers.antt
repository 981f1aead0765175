use Rattle.std.proofs.Common.{◌+◌, ◌++◌, ◌≤◌, List, length, drop, map, sym, ap, subst, ◌∙◌, arith, append_assoc, append-nil, drop_of_length-le}
use Rattle.std.proofs.lemmas.Grind.{flat_map-append}
use Rattle.std.proofs.lemmas.List.Elements.{All-nil}
use Rattle.std.specs.List.{flat_map, All}
use Rattle.rst_tree.specs.Modules.{PlainModule, PlainInstance, plain_item}
use Rattle.rst_hierarchy.specs.Hierarchy.{module_named, instances_in}
use Rattle.rst_names.proofs.Turns.{at}
use Rattle.rst_instances.specs.Places.{Place, copies}
use Rattle.rst_instances.specs.Tables.{plain_place, IsPlace}
use Rattle.rst_instances.specs.Around.{AreAround}
use Rattle.rst_instances.proofs.PlaceLemmas.{not_there}
use Rattle.rst_instances.proofs.TurnLemmas.{there_at}
use Rattle.rst_instances.proofs.places.children.Goals as goal

pub returns-in_default-clause-placed : goal.returns-in_default-clause-placed
returns-in_default-clause-placed c = λ modules h right. absurd (not_there (c.in_default.ensures.found modules h right.within))

pub loop-item-init : goal.loop-item-init
loop-item-init c = record {
  placed = λ modules h right.
      ap (λ l. map (plain_place modules) l ++ flat_map (λ (i : PlainInstance). copies (plain_place modules c.args.place.now) i (module_named modules i.of_module)) (flat_map instances_in (map plain_item c.in-Some.tables.facts.now.«module».now.items.items))) c.new-made.ensures.items
      ∙ ap (λ (k : PlainModule). flat_map (λ (i : PlainInstance). copies (plain_place modules c.args.place.now) i (module_named modules i.of_module)) (flat_map instances_in k.items)) (c.in-Some.ensures.right modules h).declared.of;
  right = λ modules h. subst (All (IsPlace modules)) (sym c.new-made.ensures.items) (All-nil (IsPlace modules));
}

pub loop-item-preserved : goal.loop-item-preserved
loop-item-preserved c =
    let xs = c.in-Some.tables.facts.now.«module».now.items.items in
    let i = c.loop-item.item-index in
    let x = c.item-item.result in
    let is = there_at c.deref-item-items.result.now xs i x c.deref-item-items.ensures.value c.loop-item-test.true c.item-item.is in
    record {
      placed = λ modules h right.
          let f = λ (k : PlainInstance). copies (plain_place modules c.args.place.now) k (module_named modules k.of_module) in
          let made = map (plain_place modules) c.loop-item.made.items in
          let rest = flat_map instances_in (map plain_item (drop (i + 1) xs)) in
          let around : AreAround modules (record { place = c.args.place; tables = c.in-Some.tables }) = record { place_right = right; tables_right = c.in-Some.ensures.right modules h } in
          ap (λ (l : List Place). l ++ flat_map f rest) (c.in_ok-push_item.ensures.placed modules h around) ∙ append_assoc made (flat_map f (instances_in (plain_item x))) (flat_map f rest)
          ∙ ap (λ (l : List Place). made ++ l) (sym (flat_map-append f (instances_in (plain_item x)) rest))
          ∙ ap (λ l. made ++ flat_map f (flat_map instances_in (map plain_item l))) (sym (at xs i x is).back) ∙ c.loop-item.invariant.placed modules h right;
      right = λ modules h. c.in_ok-push_item.ensures.right modules h (c.loop-item.invariant.right modules h);
    }

pub returns-clause-placed : goal.returns-clause-placed
returns-clause-placed c = λ modules h right.
    let xs = c.in-Some.tables.facts.now.«module».now.items.items in
    let past : length xs ≤ c.loop-item.item-index = omega (arith, ap length c.deref-item-items.ensures.value) in
    let f = λ (k : PlainInstance). copies (plain_place modules c.args.place.now) k (module_named modules k.of_module) in
    let made = map (plain_place modules) c.loop-item.made.items in
    sym (append-nil made) ∙ ap (λ l. made ++ flat_map f (flat_map instances_in (map plain_item l))) (sym (drop_of_length-le xs past)) ∙ c.loop-item.invariant.placed modules h right
