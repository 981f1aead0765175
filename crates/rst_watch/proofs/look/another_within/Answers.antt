use Rattle.std.proofs.Common.{inl, inr, arith, subst}
use Rattle.std.specs.List.{Contains}
use Rattle.rst_watch.proofs.Scans.{false_within_more}
use Rattle.rst_watch.proofs.look.another_within.Goals as goal
use Rattle.rst_watch.proofs.look.another_within.Goals.{else-not-is-via-then-not-is+else-not-has, else-not-is-via-else-not-is}

pub loop-i-preserved : goal.loop-i-preserved
loop-i-preserved c = elim c.else-not-is.branch [
  | else-not-is-via-then-not-is+else-not-has w ↦
      false_within_more c.args.trail.now.lits c.args.clause.now c.args.from c.loop-i.i c.index-clause-i.result c.args.other (omega (arith, c.requires.end)) c.index-clause-i.is
      (inr (subst (λ z. Contains c.args.trail.now.lits z) w.opposite.ensures (w.has.ensures.value.0 w.if-not-has.false))) c.loop-i.invariant
  | else-not-is-via-else-not-is w ↦
      false_within_more c.args.trail.now.lits c.args.clause.now c.args.from c.loop-i.i c.index-clause-i.result c.args.other (omega (arith, c.requires.end)) c.index-clause-i.is
      (inl (c.is.ensures.0 w.if-not-is.false)) c.loop-i.invariant
]
