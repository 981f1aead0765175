use Rattle.std.proofs.Common.{refl}
use Rattle.rst_solve.proofs.Descents.{grown_known}
use Rattle.rst_solve.proofs.Steps.{at_grown, false_at}
use Rattle.rst_solve.proofs.tree.spread.Goals as goal

pub returns-in-Some-clause-at : goal.returns-in-Some-clause-at
returns-in-Some-clause-at c = at_grown _ _ c.args.q.now.all c.args.t.now _ c.requires.at c.in_ok-propagate.ensures.grows c.in_ok-propagate.ensures.vars refl refl

pub returns-in-Some-clause-conflict : goal.returns-in-Some-clause-conflict
returns-in-Some-clause-conflict c = λ _. false_at c.args.q.now.all _ _ c.in_ok-propagate.field-0 c.in-Some.field-0 c.in-Some.is c.in_ok-propagate.ensures

pub returns-in-Some-clause-known : goal.returns-in-Some-clause-known
returns-in-Some-clause-known c = grown_known c.args.q.now.all _ _ c.in_ok-propagate.ensures.grows

pub returns-in-None-clause-at : goal.returns-in-None-clause-at
returns-in-None-clause-at c = at_grown _ _ c.args.q.now.all c.args.t.now _ c.requires.at c.in_ok-propagate.ensures.grows c.in_ok-propagate.ensures.vars refl refl

pub returns-in-None-clause-known : goal.returns-in-None-clause-known
returns-in-None-clause-known c = grown_known c.args.q.now.all _ _ c.in_ok-propagate.ensures.grows
