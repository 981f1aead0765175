use Rattle.std.proofs.Common.{subst, refl, IsTrue, ◌↔◌, List, ℤ}
use Rattle.rst_clause.specs.Passes.{clauses_of}
use Rattle.rst_check.specs.Lines.{EachFollows}
use Rattle.rst_check.proofs.Replays.{closed_follows}
use Rattle.rst_check.proofs.check.replay.Goals as goal

pub returns-then-branch : goal.returns-then-branch
returns-then-branch c = ((λ e. closed_follows (clauses_of c.args.clauses.now) c.args.log.now (c.in_ok-load.ensures.closes c.if-branch.true)), (λ h. refl))

pub returns : goal.returns
returns c = subst (λ (z : List (List ℤ)). IsTrue c.in_ok-yes.yes ↔ EachFollows z c.args.log.now) (c.in_ok-load.ensures.clauses c.if-branch.false) c.in_ok-yes.ensures
