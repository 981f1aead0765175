use Rattle.std.proofs.Common.{◌≡◌, ◌⊎◌, inl, inr, ◌++◌, ◌∷◌, [], List, ℤ, Result, Ok, Err, OnOk, OnErr, subst, sym}
use Rattle.rst_clause.specs.Occurrences.{IsIndexed}
use Rattle.rst_clause.proofs.Noting.{indexed_kept, indexed_pushed}
use Rattle.rst_clause.proofs.indexed.IndexedClauses.push.Goals as goal

-- one more clause, or the same clauses
either : {X E : Type 0} (r : Result X E) (old new : List (List ℤ)) (clause : List ℤ) → OnOk r (new ≡ old ++ clause ∷ []) → OnErr r (new ≡ old)
    → (new ≡ old ++ clause ∷ []) ⊎ (new ≡ old)
either (Ok x) old new clause ok err = inl ok
either (Err e) old new clause ok err = inr err

pub invariant_of-self-2 : goal.invariant_of-self-2
invariant_of-self-2 c =
    let old = c.self.inside.store in
    let lists = c.note_all.new.lists.items in
    elim (either c.push.result old c.push.new.self c.args.clause.now c.push.ensures.ok c.push.ensures.err) [
      | inl e ↦ subst (λ z. IsIndexed z lists) (sym e)
          (indexed_pushed old c.args.clause.now c.self.inside.occurrences.items lists c.len-number.result c.len-number.ensures c.in_ok-note_all.ensures.kept c.in_ok-note_all.ensures.noted c.self.invariant)
      | inr e ↦ subst (λ z. IsIndexed z lists) (sym e) (indexed_kept old c.self.inside.occurrences.items lists c.in_ok-note_all.ensures.kept c.self.invariant)
    ]
