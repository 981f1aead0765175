use Rattle.std.proofs.Common.{◌≡◌, ◌++◌, ◌-◌, ◌<◌, ◌∷◌, [], map, sym, ap, subst, ◌∙◌, arith, append_assoc, append-nil}
use Rattle.std.proofs.lemmas.List.{map-append, nil_from_length}
use Rattle.std.proofs.lemmas.List.Elements.{All-push}
use Rattle.std.specs.List.{flat_map, All}
use Rattle.std.specs.Vec.Iter.{into_iter_items}
use Rattle.rst_instances.specs.Places.{below}
use Rattle.rst_instances.specs.Tables.{plain_place, IsPlace}
use Rattle.rst_instances.proofs.PlaceLemmas.{below-more}
use Rattle.rst_instances.proofs.WalkLemmas.{below_alone, below_step, next_one, other_ones}
use Rattle.rst_instances.proofs.places.+push_below.Goals as goal

pub returns-then-depth-eq0-clause-placed : goal.returns-then-depth-eq0-clause-placed
returns-then-depth-eq0-clause-placed t c = λ modules h right.
    let old = c.args.made.now.items in
    below_alone modules (plain_place modules) old c.push.new.self.items c.args.place c.args.depth c.in_ok-push.ensures.items c.if-depth-eq0.true

pub loop-child-init : goal.loop-child-init
loop-child-init t c =
    let old = c.args.made.now.items in
    let into = c.into_iter-child-iterator.ensures.into_iter_gives.0 in
    let positive : 0 < c.args.depth = omega arith in
    record {
      placed = λ modules h right.
          let p = plain_place modules c.args.place in
          let made = map (plain_place modules) old in
          let rest = flat_map (below (c.args.depth - 1) modules) (map (plain_place modules) (into_iter_items c.into_iter-child-iterator.result)) in
          ap (λ l. map (plain_place modules) l ++ rest) c.in_ok-push-2.ensures.items ∙ ap (λ l. l ++ rest) (map-append (plain_place modules) old (c.args.place ∷ [])) ∙ append_assoc made (p ∷ []) rest
          ∙ ap (λ l. made ++ p ∷ flat_map (below (c.args.depth - 1) modules) (map (plain_place modules) l)) into
          ∙ ap (λ l. made ++ p ∷ flat_map (below (c.args.depth - 1) modules) l) (c.in_ok-below.ensures.placed modules h right)
          ∙ ap (λ l. made ++ l) (sym (below-more c.args.depth modules p positive));
      right = λ modules h right before. subst (All (IsPlace modules)) (sym c.in_ok-push-2.ensures.items) (All-push (IsPlace modules) old c.args.place before right);
      left = λ modules h. subst (All (IsPlace modules)) (sym into) (c.in_ok-below.ensures.right modules h);
    }

pub loop-child-preserved : goal.loop-child-preserved
loop-child-preserved t c =
    let front = into_iter_items c.loop-child.child-iterator in
    let others = into_iter_items c.next.new.self in
    let child = c.in-Some.child in
    let steps = c.in-Some.ensures.steps.0 in
    record {
      placed = λ modules h right.
          let view = plain_place modules in
          below_step (c.args.depth - 1) modules (map view c.loop-child.made.items) (map view c.push_below.new.made.items) (map view others) (map view front) (map view c.args.made.now.items ++ below c.args.depth modules (view c.args.place)) (view child)
          (ap (map view) steps) (c.in_ok-push_below.ensures.placed modules h (next_one (IsPlace modules) front others child steps (c.loop-child.invariant.left modules h))) (c.loop-child.invariant.placed modules h right);
      right = λ modules h right before.
          c.in_ok-push_below.ensures.right modules h (next_one (IsPlace modules) front others child steps (c.loop-child.invariant.left modules h)) (c.loop-child.invariant.right modules h right before);
      left = λ modules h. other_ones (IsPlace modules) front others child steps (c.loop-child.invariant.left modules h);
    }

pub returns-clause-placed : goal.returns-clause-placed
returns-clause-placed t c = λ modules h right.
    let it = c.loop-child.child-iterator in
    let none : into_iter_items it ≡ [] = nil_from_length (into_iter_items it) (omega (arith, it.rest.ok.0, c.in-None.ensures.steps.0)) in
    let made = map (plain_place modules) c.loop-child.made.items in
    sym (append-nil made) ∙ ap (λ l. made ++ flat_map (below (c.args.depth - 1) modules) (map (plain_place modules) l)) (sym none) ∙ c.loop-child.invariant.placed modules h right
