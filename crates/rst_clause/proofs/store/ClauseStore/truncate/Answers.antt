use Rattle.std.proofs.Common.{◌≤◌, ◌∙◌, sym, ap, subst, length, take, List, ℕ, ℤ}
use Rattle.rst_clause.specs.Parts.{begin_of}
use Rattle.rst_clause.proofs.PartLemmas.{length-parts, parts-taken}
use Rattle.rst_clause.proofs.store.ClauseStore.truncate.Goals as goal

pub start_of-end-requires : goal.start_of-end-requires
start_of-end-requires c =
    let len = ap (λ (z : List (List ℤ)). length z) (sym c.self.view_is) ∙ length-parts 0 c.self.inside.ends.items c.self.inside.lits.items
    ∙ ap (λ (z : List ℕ). length z) (sym c.deref.ensures.value) in
    subst (λ n. c.args.n ≤ n) len c.requires

pub invariant_of-self : goal.invariant_of-self
invariant_of-self c =
    let len = ap (λ (z : List (List ℤ)). length z) (sym c.self.view_is) ∙ length-parts 0 c.self.inside.ends.items c.self.inside.lits.items in
    (parts-taken c.self.inside.ends.items c.truncate-2.new.self.items c.self.inside.lits.items c.truncate.new.self.items c.args.n c.start_of-end.result
    c.self.invariant (subst (λ n. c.args.n ≤ n) len c.requires)
    (c.start_of-end.ensures ∙ ap (λ (z : List ℕ). begin_of 0 z c.args.n) c.deref.ensures.value) c.truncate.ensures.items c.truncate-2.ensures.items).0

pub returns : goal.returns
returns c =
    let len = ap (λ (z : List (List ℤ)). length z) (sym c.self.view_is) ∙ length-parts 0 c.self.inside.ends.items c.self.inside.lits.items in
    (parts-taken c.self.inside.ends.items c.truncate-2.new.self.items c.self.inside.lits.items c.truncate.new.self.items c.args.n c.start_of-end.result
    c.self.invariant (subst (λ n. c.args.n ≤ n) len c.requires)
    (c.start_of-end.ensures ∙ ap (λ (z : List ℕ). begin_of 0 z c.args.n) c.deref.ensures.value) c.truncate.ensures.items c.truncate-2.ensures.items).1
    ∙ ap (λ (z : List (List ℤ)). take c.args.n z) c.self.view_is
