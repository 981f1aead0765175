use Rattle.std.proofs.Common.{◌≡◌, ◌+◌, ◌++◌, ◌<◌, ◌^◌, ◌∷◌, [], length, map, sym, ap, subst, ◌∙◌, arith}
use Rattle.std.proofs.lemmas.List.{map-append}
use Rattle.std.proofs.lemmas.List.Elements.{All-push}
use Rattle.std.proofs.lemmas.List.Sums.{sum_by-cons}
use Rattle.std.specs.List.{All, sum_by}
use Rattle.std.specs.Vec.Iter.{into_iter_items}
use Rattle.rst_names.specs.Declarations.{signals}
use Rattle.rst_instances.specs.Places.{Place, located, located_from}
use Rattle.rst_instances.specs.Tables.{plain_place, module_at, IsPlace}
use Rattle.rst_instances.specs.Locations.{plain_located, IsLocated}
use Rattle.rst_instances.proofs.WalkLemmas.{located_step, next_one, other_ones}
use Rattle.rst_instances.proofs.extents.located_of.Goals as goal

pub loop-place-preserved : goal.loop-place-preserved
loop-place-preserved c =
    let front = into_iter_items c.loop-place.place-iterator in
    let others = into_iter_items c.next.new.self in
    let place = c.in-Some.place in
    let steps = c.in-Some.ensures.steps.0 in
    let made = c.loop-place.made.items in
    let one = c.in_ok-one.one in
    let many = λ (p : Place). length (signals p.of) in
    record {
      located = λ modules h all small.
          let view = plain_place modules in
          let here = next_one (IsPlace modules) front others place steps (c.loop-place.invariant.left modules h all) in
          let sum : sum_by many (map view front) ≡ many (view place) + sum_by many (map view others) = ap (λ l. sum_by many (map view l)) steps ∙ sum_by-cons many (view place) (map view others) in
          let few : c.loop-place.next + length (signals (module_at modules place.of)) < 2 ^ 32 = omega (arith, sum, c.loop-place.invariant.few modules h all small) in
          ap (λ l. map (plain_located modules) l ++ located_from c.located.new.next (map view others)) c.in_ok-push.ensures.items
          ∙ ap (λ l. l ++ located_from c.located.new.next (map view others)) (map-append (plain_located modules) made (one ∷ []))
          ∙ located_step (map (plain_located modules) made) (located (map view c.args.places.items)) (plain_located modules one) c.loop-place.next c.located.new.next (view place) (map view others) (map view front)
          (ap (map view) steps) (c.in_ok-one.ensures.right modules h here few).1 (c.in_ok-one.ensures.after modules h here few) (c.loop-place.invariant.located modules h all small);
      few = λ modules h all small.
          let view = plain_place modules in
          let here = next_one (IsPlace modules) front others place steps (c.loop-place.invariant.left modules h all) in
          let sum : sum_by many (map view front) ≡ many (view place) + sum_by many (map view others) = ap (λ l. sum_by many (map view l)) steps ∙ sum_by-cons many (view place) (map view others) in
          let few : c.loop-place.next + length (signals (module_at modules place.of)) < 2 ^ 32 = omega (arith, sum, c.loop-place.invariant.few modules h all small) in
          omega (arith, sum, c.in_ok-one.ensures.after modules h here few, c.loop-place.invariant.few modules h all small);
      left = λ modules h all. other_ones (IsPlace modules) front others place steps (c.loop-place.invariant.left modules h all);
      right = λ modules h all small.
          let view = plain_place modules in
          let here = next_one (IsPlace modules) front others place steps (c.loop-place.invariant.left modules h all) in
          let sum : sum_by many (map view front) ≡ many (view place) + sum_by many (map view others) = ap (λ l. sum_by many (map view l)) steps ∙ sum_by-cons many (view place) (map view others) in
          let few : c.loop-place.next + length (signals (module_at modules place.of)) < 2 ^ 32 = omega (arith, sum, c.loop-place.invariant.few modules h all small) in
          subst (All (IsLocated modules)) (sym c.in_ok-push.ensures.items) (All-push (IsLocated modules) made one (c.loop-place.invariant.right modules h all small) (c.in_ok-one.ensures.right modules h here few).0);
    }
