use Rattle.std.proofs.Common.{◌≡◌, ◌∙◌, ap, get_or, [], subst, sym}
use Rattle.std.specs.List.{Contains}
use Rattle.std.proofs.lemmas.List.{get_or_past}
use Rattle.rst_clause.specs.Trails.{place_of}
use Rattle.rst_clause.specs.Occurrences.{IsIndexed}
use Rattle.rst_clause.proofs.Members.{Contains-nil}
use Rattle.rst_clause.proofs.indexed.IndexedClauses.occurrences.Goals as goal

pub returns-in-Some : goal.returns-in-Some
returns-in-Some c =
    let lists = c.self.inside.occurrences.items in
    let indexed : IsIndexed c.args.self.now lists = subst (λ z. IsIndexed z lists) c.self.view_is c.self.invariant in
    let list : c.as_slice.result.now ≡ get_or lists (place_of c.args.lit) [] =
    c.as_slice.ensures ∙ c.in-Some.ensures.lookup.3.1 [] ∙ ap (λ z. get_or z c.place_of.result []) c.deref.ensures.value ∙ ap (λ p. get_or lists p []) c.place_of.ensures.value in
    λ i lt h. subst (λ z. Contains z i) (sym list) (indexed i lt c.args.lit h)

pub returns-in-None : goal.returns-in-None
returns-in-None c =
    let lists = c.self.inside.occurrences.items in
    let indexed : IsIndexed c.args.self.now lists = subst (λ z. IsIndexed z lists) c.self.view_is c.self.invariant in
    let list : get_or lists (place_of c.args.lit) [] ≡ [] =
    ap (λ p. get_or lists p []) (sym c.place_of.ensures.value) ∙ ap (λ z. get_or z c.place_of.result []) (sym c.deref.ensures.value)
    ∙ get_or_past c.deref.result.now c.place_of.result [] c.in-None.ensures.lookup.3 in
    λ i lt h. absurd (Contains-nil i (subst (λ z. Contains z i) list (indexed i lt c.args.lit h)))
