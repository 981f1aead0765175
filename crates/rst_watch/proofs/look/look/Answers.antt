use Rattle.std.proofs.Common.{inl, inr, arith, subst}
use Rattle.std.specs.List.{Contains}
use Rattle.rst_clause.proofs.Members.{absent}
use Rattle.rst_watch.proofs.Scans.{false_but_more}
use Rattle.rst_watch.proofs.look.look.Goals as goal
use Rattle.rst_watch.proofs.look.look.Goals.{else-not-is-via-then-not-is+else-not-has, else-not-is-via-else-not-is}

pub loop-i-preserved : goal.loop-i-preserved
loop-i-preserved c = elim c.else-not-is.branch [
  | else-not-is-via-then-not-is+else-not-has w ↦
      false_but_more c.args.trail.now.lits c.args.clause.now c.loop-i.i c.index-clause-i.result c.args.other (omega arith) c.index-clause-i.is
      (absent _ _ c.has.ensures.value c.if-has.false)
      (inr (subst (λ z. Contains c.args.trail.now.lits z) w.opposite.ensures (w.has-then-not-is.ensures.value.0 w.if-not-has.false))) c.loop-i.invariant
  | else-not-is-via-else-not-is w ↦
      false_but_more c.args.trail.now.lits c.args.clause.now c.loop-i.i c.index-clause-i.result c.args.other (omega arith) c.index-clause-i.is
      (absent _ _ c.has.ensures.value c.if-has.false) (inl (c.is.ensures.0 w.if-not-is.false)) c.loop-i.invariant
]
