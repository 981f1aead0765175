use Rattle.std.proofs.Common.{◌≡◌, ◌∙◌, ◌∷◌, [], ◌++◌, ap, List, ℤ, rules}
use Rattle.rst_clause.proofs.PartLemmas.{parts-pushed}
use Rattle.rst_clause.proofs.store.ClauseStore.push.Goals as goal

pub invariant_of-self-else-is_err : goal.invariant_of-self-else-is_err
invariant_of-self-else-is_err c =
    let lits : c.extend_from_slice.new.self.items ≡ c.self.inside.lits.items ++ c.args.clause.now = search rules in
    let ends : c.push.new.self.items ≡ c.self.inside.ends.items ++ c.len-end.result ∷ [] = search rules in
    (parts-pushed c.self.inside.ends.items c.push.new.self.items c.self.inside.lits.items c.extend_from_slice.new.self.items c.args.clause.now c.len-end.result
    c.self.invariant lits (c.len-end.ensures ∙ c.extend_from_slice.new.self.ok.0) ends).0

pub returns-clause-ok : goal.returns-clause-ok
returns-clause-ok c =
    let lits : c.extend_from_slice.new.self.items ≡ c.self.inside.lits.items ++ c.args.clause.now = search rules in
    let ends : c.push.new.self.items ≡ c.self.inside.ends.items ++ c.len-end.result ∷ [] = search rules in
    (parts-pushed c.self.inside.ends.items c.push.new.self.items c.self.inside.lits.items c.extend_from_slice.new.self.items c.args.clause.now c.len-end.result
    c.self.invariant lits (c.len-end.ensures ∙ c.extend_from_slice.new.self.ok.0) ends).1
    ∙ ap (λ (z : List (List ℤ)). z ++ c.args.clause.now ∷ []) c.self.view_is
