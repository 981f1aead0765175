use Rattle.std.proofs.Common.{◌∙◌, ◌+◌, subst, sym, arith}
use Rattle.std.proofs.lemmas.Grind.{common_steps}
use Rattle.rst_clause.specs.Literals.{IsLiteral}
use Rattle.rst_pose.proofs.Growing.{literals_push}
use Rattle.rst_pose.proofs.Turns.{free_more}
use Rattle.rst_pose.proofs.states.free_literals.Goals as goal

pub loop-i-preserved : goal.loop-i-preserved
loop-i-preserved c =
    let so_far = c.loop-i.invariant in
    let isl : IsLiteral (c.args.before + (c.loop-i.i + 1)) c.of_variable.result = subst (IsLiteral (c.args.before + (c.loop-i.i + 1))) (sym c.of_variable.ensures) (omega arith, omega arith) in
    record {
      value = so_far.value
          ∙ free_more c.args.before c.args.count c.loop-i.i c.loop-i.lits.items c.push.new.self.items c.of_variable.result c.loop-i-test.true
          c.of_variable.ensures c.in_ok-push.ensures.items;
      count = rw c.in_ok-push.ensures.items (grind (arith, common_steps, so_far.count));
      held = literals_push (c.args.before + c.loop-i.i) (c.args.before + (c.loop-i.i + 1)) c.loop-i.lits.items c.push.new.self.items c.of_variable.result
          (omega arith) so_far.held isl c.in_ok-push.ensures.items;
    }
