use Rattle.std.proofs.Common.{arith, ◌≡◌, ◌<◌, length, subst, ap, ◌∙◌, take}
use Rattle.std.proofs.Math.Seq.{take-length}
use Rattle.std.proofs.lemmas.List.Elements.{All-more}
use Rattle.rst_clause.specs.Literals.{IsLiteral, AreLiterals}
use Rattle.rst_query_text.proofs.posing.Posing.has_all.Goals as goal

pub loop-i-preserved : goal.loop-i-preserved
loop-i-preserved c =
    let lt : c.loop-i.i < length c.args.lits.now = omega arith in
    let vars = c.args.self.now.domain.clauses.vars in
    let here : IsLiteral vars c.index-lits-i.result = (omega arith, omega arith) in
    All-more (IsLiteral vars) c.args.lits.now c.loop-i.i c.index-lits-i.result lt c.loop-i.invariant (subst (λ z. IsLiteral vars z) c.index-lits-i.is here)

pub returns : goal.returns
returns c =
    let vars = c.args.self.now.domain.clauses.vars in
    let at_end : c.loop-i.i ≡ length c.args.lits.now = omega arith in
    λ e. subst (λ z. AreLiterals vars z) (ap (λ n. take n c.args.lits.now) at_end ∙ take-length c.args.lits.now) c.loop-i.invariant
