use Rattle.std.proofs.Common.{subst, IsTrue, ◌↔◌, List, ℤ}
use Rattle.rst_clause.specs.Propagation.{Follows}
use Rattle.rst_check.proofs.LineSteps.{taken_back}
use Rattle.rst_check.proofs.check.follows.Goals as goal

pub returns-clause-answer : goal.returns-clause-answer
returns-clause-answer c = subst (λ (z : List (List ℤ)). IsTrue c.in_ok-yes.yes ↔ Follows z c.args.line.now) c.open.ensures.clauses c.in_ok-yes.ensures.answer

pub returns-clause-back : goal.returns-clause-back
returns-clause-back c =
    taken_back c.args.p.now c.open.new.self c.contradicts.new.p c.back.new.self c.in_ok-open.ensures.floors c.open.ensures.clauses c.open.ensures.trail c.in_ok-yes.ensures.longer
    c.back.ensures.lits c.back.ensures.floors c.back.ensures.settled c.back.ensures.vars c.back.ensures.clauses
