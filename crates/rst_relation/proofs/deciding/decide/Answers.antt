use Rattle.std.proofs.Common.{◌≡◌, ◌∙◌, length, ap, sym, subst, arith}
use Rattle.rst_relation.proofs.Marked.{are_marked}
use Rattle.rst_relation.proofs.Working.{refining_works}
use Rattle.rst_relation.specs.Decisions.{one_design}
use Rattle.rst_relation.proofs.deciding.decide.Goals as goal

pub refine-requires-clause-marked : goal.refine-requires-clause-marked
refine-requires-clause-marked c =
    are_marked c.args.gates.now c.args.pattern.now c.in_ok-equal.equal c.are_sides.ensures.left c.in_ok-equal.ensures

pub returns-clause-work : goal.returns-clause-work
returns-clause-work c = (
  c.in_ok-equal.ensures,
  λ bound.
      refining_works (one_design c.args.gates.now) c.in_ok-equal.equal c.args.pattern.now bound c.in-Spent.journal (rw c.in-Spent.is at c.in_ok-blocked.ensures.work),
)
