use Rattle.std.proofs.Common.{◌≡◌, ◌∙◌, ◌+◌, ap, sym, arith, rules, take, List}
use mathlib.Core.List.{reverse}
use Rattle.rst_clause.specs.Literals.{opposite}
use Rattle.rst_solve.specs.Tree.{decisions, denied}
use Rattle.rst_solve.specs.declared.levels.Level.{Level}
use Rattle.rst_solve.proofs.Lines.{denied_more}
use Rattle.rst_solve.proofs.levels.Levels.denied.Goals as goal

pub loop-i-preserved : goal.loop-i-preserved
loop-i-preserved c =
    let so_far : c.loop-i.clause ≡ denied (decisions (take c.loop-i.i (reverse c.self.inside.items.items))) =
    c.loop-i.invariant ∙ ap (λ (z : List Level). denied (decisions (take c.loop-i.i z))) (sym c.self.view_is) in
    denied_more c.self.inside.items.items c.loop-i.i c.index-level.result.now c.opposite.result c.loop-i.clause c.push.new.self (omega arith) (search rules)
    (c.opposite.ensures ∙ ap opposite c.literal.ensures) so_far c.in_ok-push.ensures.ok
    ∙ ap (λ (z : List Level). denied (decisions (take (c.loop-i.i + 1) z))) c.self.view_is
