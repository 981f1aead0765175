use Rattle.std.proofs.Common.{◌∙◌, sym, ap, length, List, ℤ}
use Rattle.rst_clause.proofs.PartLemmas.{length-parts}
use Rattle.rst_clause.proofs.store.ClauseStore.len.Goals as goal

pub returns : goal.returns
returns c =
    c.len.ensures ∙ c.self.inside.ends.ok.0 ∙ sym (length-parts 0 c.self.inside.ends.items c.self.inside.lits.items)
    ∙ ap (λ (z : List (List ℤ)). length z) c.self.view_is
