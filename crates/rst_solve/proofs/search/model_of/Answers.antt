use Rattle.std.proofs.Common.{◌≡◌, ◌↔◌, subst, true, ℤ}
use Rattle.std.specs.List.{Contains}
use Rattle.rst_solve.proofs.Models.{model_push}
use Rattle.rst_solve.proofs.search.model_of.Goals as goal

pub loop-bit-preserved : goal.loop-bit-preserved
loop-bit-preserved c =
    rw c.in_ok-push.ensures.ok (model_push c.args.trail.now.lits c.loop-bit.bit c.loop-bit.bits c.has.result c.loop-bit.invariant
    (subst (λ (z : ℤ). (c.has.result ≡ true) ↔ Contains c.args.trail.now.lits z) c.literal.ensures c.has.ensures.value))
