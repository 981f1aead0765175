use Rattle.std.proofs.Common.{arith, ◌≡◌, ◌<◌, length, subst, ap, ◌∙◌, take, refl}
use Rattle.std.proofs.Math.Seq.{take-length}
use Rattle.std.proofs.lemmas.List.Elements.{All-more}
use Rattle.rst_clause.specs.Literals.{IsLiteral, AreLiterals}
use Rattle.rst_check.proofs.range.is_in_range.Goals as goal

pub loop-i-preserved : goal.loop-i-preserved
loop-i-preserved c =
    let lt : c.loop-i.i < length c.args.clause.now = omega arith in
    let here : IsLiteral c.args.vars c.get.result.now = (omega arith, omega arith) in
    All-more (IsLiteral c.args.vars) c.args.clause.now c.loop-i.i c.get.result.now lt c.loop-i.invariant (subst (λ z. IsLiteral c.args.vars z) c.get.ensures here)

pub returns : goal.returns
returns c =
    let at_end : c.loop-i.i ≡ length c.args.clause.now = omega arith in
    let all : AreLiterals c.args.vars c.args.clause.now = subst (λ z. AreLiterals c.args.vars z) (ap (λ n. take n c.args.clause.now) at_end ∙ take-length c.args.clause.now) c.loop-i.invariant in
    ((λ e. all), (λ h. refl))
