use Rattle.std.proofs.Common.{◌∙◌, sym, arith}
use Rattle.rst_weight.specs.Plain.{is_fresh}
use Rattle.rst_weight.proofs.Bits.{places-zero, places-true, places-false}
use Rattle.rst_weight.proofs.counts.fresh.Goals as goal
use Rattle.rst_weight.proofs.counts.fresh.Goals.{then-is_fresh, else-is_fresh}

pub loop-place-init : goal.loop-place-init
loop-place-init c = (omega arith, places-zero (is_fresh c.args.slice c.args.others.now))

pub loop-place-preserved : goal.loop-place-preserved
loop-place-preserved c = elim c.if-is_fresh.branch [
  | then-is_fresh w ↦ (
    omega arith,
    places-true (is_fresh c.args.slice c.args.others.now) c.loop-place.place c.loop-place.sum c.if-is_fresh.sum c.loop-place.invariant.1 (sym c.is_fresh.ensures ∙ w.if-is_fresh.true) w.sum-is,
  )
  | else-is_fresh w ↦ (
    omega arith,
    places-false (is_fresh c.args.slice c.args.others.now) c.loop-place.place c.loop-place.sum c.if-is_fresh.sum c.loop-place.invariant.1 (sym c.is_fresh.ensures ∙ w.if-is_fresh.false) w.sum-is,
  )
]
