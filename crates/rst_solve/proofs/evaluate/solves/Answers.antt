use Rattle.std.proofs.Common.{arith, ◌≡◌, ◌<◌, length, subst, ap, ◌∙◌, take}
use Rattle.std.specs.List.{All}
use Rattle.std.proofs.Math.Seq.{take-length}
use Rattle.std.proofs.lemmas.List.Elements.{All-contains}
use Rattle.rst_clause.specs.Literals.{Holds}
use Rattle.rst_solve.specs.Choices.{choice_of}
use Rattle.rst_solve.proofs.Ends.{all_more}
use Rattle.rst_solve.proofs.evaluate.solves.Goals as goal

pub loop-i-preserved : goal.loop-i-preserved
loop-i-preserved c =
    let lt : c.loop-i.i < length c.args.clauses.now = omega arith in
    let here : Holds (choice_of c.args.values.now) c.get.result.now = c.one_holds.ensures c.if-not-one_holds.false in
    all_more (Holds (choice_of c.args.values.now)) c.args.clauses.now c.loop-i.i lt c.loop-i.invariant (subst (λ z. Holds (choice_of c.args.values.now) z) c.get.ensures here)

pub returns : goal.returns
returns c =
    let at_end : c.loop-i.i ≡ length c.args.clauses.now = omega arith in
    let all : All (Holds (choice_of c.args.values.now)) c.args.clauses.now =
    subst (λ z. All (Holds (choice_of c.args.values.now)) z) (ap (λ n. take n c.args.clauses.now) at_end ∙ take-length c.args.clauses.now) c.loop-i.invariant in
    λ _ d h. All-contains (Holds (choice_of c.args.values.now)) c.args.clauses.now d all h
