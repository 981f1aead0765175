use Rattle.std.proofs.Common.{◌≡◌, ◌∙◌, drop, arith}
use Rattle.std.proofs.lemmas.Grind.{common_steps}
use Rattle.rst_gate.specs.Patterns.{free_count}
use Rattle.rst_value.specs.declared.tern.Tern.TheVariants.{Zero}
use Rattle.rst_pose.proofs.Growing.{literals_push}
use Rattle.rst_pose.proofs.Turns.{cycle_more, count_more, count_end, place_in_range}
use Rattle.rst_pose.proofs.states.cycle_literals.Goals as goal

pub loop-place-preserved : goal.loop-place-preserved
loop-place-preserved c =
    let so_far = c.loop-place.invariant in
    let one = c.place_literal-lit.ensures in
    let count = count_more c.args.places.now c.loop-place.place-index Zero c.loop-place-test.true in
    record {
      value = so_far.value
          ∙ cycle_more c.args.low c.args.places.now c.loop-place.place-index _ c.loop-place.lits.items c.push.new.self.items
          c.place_literal-lit.result.0 c.loop-place.last c.place_literal-lit.result.1 c.loop-place-test.true one.value one.last c.in_ok-push.ensures.items;
      count = rw c.in_ok-push.ensures.items (grind (arith, common_steps, so_far.count));
      held = λ n most low. literals_push n n c.loop-place.lits.items c.push.new.self.items c.place_literal-lit.result.0 (omega arith)
          (so_far.held n (omega (arith, one.last, most)) low)
          (place_in_range n c.args.low _ c.loop-place.last c.place_literal-lit.result.0 (omega (arith, one.last, most)) low one.value)
          c.in_ok-push.ensures.items;
      free = omega (arith, so_far.free, count, one.last);
    }

pub returns-clause-held : goal.returns-clause-held
returns-clause-held c n most low =
    let none : free_count (drop c.loop-place.place-index c.args.places.now) ≡ 0 = count_end c.args.places.now c.loop-place.place-index c.loop-place-test.false in
    c.loop-place.invariant.held n (omega (arith, c.loop-place.invariant.free, none, most)) low
