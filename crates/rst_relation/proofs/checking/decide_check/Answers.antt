-- A pattern that isn't known is decided by a relation.
use Rattle.std.proofs.Common.{◌≡◌, ◌∙◌, subst, sym}
use Rattle.std.proofs.lemmas.Bool.{false≢true}
use Rattle.rst_gate.specs.GateMachines.{terns_of}
use Rattle.rst_gate.specs.TernMachine.{KnowsPattern}
use Rattle.rst_relation.specs.Verdicts.{Decides}
use Rattle.rst_relation.proofs.Verdicts.{decision_decides}
use Rattle.rst_relation.proofs.checking.decide_check.Goals as goal

pub returns : goal.returns
returns c =
    let d = c.in_ok-decision.ensures in
    subst (λ verdict. Decides (KnowsPattern (terns_of c.args.gates.now) c.args.pattern) c.args.gates.now c.args.pattern c.args.budget verdict) (sym c.verdict_of.ensures)
    (decision_decides (KnowsPattern (terns_of c.args.gates.now) c.args.pattern) c.args.gates.now c.args.pattern c.args.budget c.in_ok-decision.decision
    (λ k. false≢true (sym c.if-branch.false ∙ c.in_ok-knows.ensures.1 k)) d.work d.signed d.hops d.split d.land d.refuted d.unknown d.spends)
