use Rattle.std.proofs.Common.{Option, Some, None, IfNone}
use Rattle.rst_watch.proofs.Scans.{false_within_all}
use Rattle.rst_watch.proofs.look.another.Goals as goal

if_none : {X P Q : Type 0} (found : Option X) → (P → Q) → IfNone found P → IfNone found Q
if_none (Some x) f p = tt
if_none None f p = f p

pub returns-clause-none : goal.returns-clause-none
returns-clause-none c =
    if_none c.another_within-2.result
    (λ low.
    false_within_all c.args.trail.now.lits c.args.clause.now c.args.other c.place-from.result c.requires.consistent c.requires.not_there c.in_default.ensures.none low)
    c.another_within-2.ensures.none
