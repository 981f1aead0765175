use Rattle.std.proofs.Common.{◌∙◌, ◌+◌, arith}
use Rattle.std.proofs.lemmas.Grind.{common_steps}
use Rattle.rst_clause.specs.Literals.{IsLiteral}
use Rattle.rst_pose.proofs.Growing.{literals_push}
use Rattle.rst_pose.proofs.Turns.{sharing_more, open_more, open_step}
use Rattle.rst_pose.proofs.states.sharing_literals.Goals as goal

pub loop-i-preserved : goal.loop-i-preserved
loop-i-preserved c =
    let so_far = c.loop-i.invariant in
    let few = open_step _ _ c.open_at-last.ensures in
    let held : IsLiteral (c.loop-i.last + c.open_at-last.result) c.register_literal-lit.result = rw c.open_at-last.ensures c.register_literal-lit.ensures.held in
    record {
      value = so_far.value
          ∙ sharing_more c.args.count c.loop-i.i c.args.marks.now c.args.left.now c.loop-i.lits.items c.push.new.self.items c.loop-i.last c.open_at-last.result
          c.register_literal-lit.result c.loop-i-test.true c.register_literal-lit.ensures.value c.open_at-last.ensures c.in_ok-push.ensures.items;
      count = rw c.in_ok-push.ensures.items (grind (arith, common_steps, so_far.count));
      held = literals_push c.loop-i.last (c.loop-i.last + c.open_at-last.result) c.loop-i.lits.items c.push.new.self.items c.register_literal-lit.result
          (omega arith) so_far.held held c.in_ok-push.ensures.items;
      least = omega (arith, so_far.least);
      most = omega (arith, so_far.most, few);
      open_so_far = so_far.open_so_far
          ∙ open_more c.args.count c.loop-i.i c.args.marks.now c.loop-i.last c.open_at-last.result c.loop-i-test.true c.open_at-last.ensures;
    }
