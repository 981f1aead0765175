use Rattle.std.proofs.Common.{◌<◌, ◌∙◌, sym, ap, subst, length, List, ℤ}
use Rattle.rst_clause.proofs.PartLemmas.{length-parts}
use Rattle.rst_clause.proofs.store.ClauseStore.get.Goals as goal

pub part-requires-clause-place : goal.part-requires-clause-place
part-requires-clause-place c =
    let len = ap (λ (z : List (List ℤ)). length z) (sym c.self.view_is) ∙ length-parts 0 c.self.inside.ends.items c.self.inside.lits.items
    ∙ ap (λ z. length z) (sym c.deref-2.ensures.value) in
    subst (λ n. c.args.i < n) len c.requires
