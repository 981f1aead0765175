use Rattle.std.proofs.Common.{subst, sym}
use Rattle.rst_clause.specs.Occurrences.{KeepsLists}
use Rattle.rst_clause.proofs.Noting.{keeps_join, keeps_pushed}
use Rattle.rst_clause.proofs.indexed.reach.Goals as goal

pub growing-preserved : goal.growing-preserved
growing-preserved c =
    keeps_join c.args.lists.now.items c.growing.lists.items c.push.new.self.items c.growing.invariant
    (subst (λ z. KeepsLists c.growing.lists.items z) (sym c.in_ok-push.ensures.items) (keeps_pushed c.growing.lists.items c.new.result))

pub returns-in_err-push-clause-kept : goal.returns-in_err-push-clause-kept
returns-in_err-push-clause-kept c =
    subst (λ z. KeepsLists c.args.lists.now.items z) (sym c.in_err-push.ensures.items) c.growing.invariant
