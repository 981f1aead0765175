use Rattle.std.proofs.Common.{arith, ◌≡◌, ◌<◌, length, subst, ap, ◌∙◌, take, refl}
use Rattle.std.proofs.Math.Seq.{take-length}
use Rattle.std.proofs.lemmas.List.Elements.{All-more}
use Rattle.rst_clause.specs.Literals.{AreLiterals, AreClauses}
use Rattle.rst_check.proofs.range.are_in_range.Goals as goal

pub loop-i-preserved : goal.loop-i-preserved
loop-i-preserved c =
    let lt : c.loop-i.i < length c.args.log.now = omega arith in
    let here : AreLiterals c.args.vars c.get.result.now = c.is_in_range.ensures.0 c.if-not-is_in_range.false in
    All-more (AreLiterals c.args.vars) c.args.log.now c.loop-i.i c.get.result.now lt c.loop-i.invariant (subst (λ z. AreLiterals c.args.vars z) c.get.ensures here)

pub returns : goal.returns
returns c =
    let at_end : c.loop-i.i ≡ length c.args.log.now = omega arith in
    let all : AreClauses c.args.vars c.args.log.now = subst (λ z. AreClauses c.args.vars z) (ap (λ n. take n c.args.log.now) at_end ∙ take-length c.args.log.now) c.loop-i.invariant in
    ((λ e. all), (λ h. refl))
