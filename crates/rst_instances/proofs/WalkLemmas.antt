-- One turn of the loops over instances: those below an instance, and those whose signals are numbered.
use Rattle.std.proofs.Common.{◌≡◌, ℕ, ◌+◌, List, [], ◌∷◌, ◌++◌, length, map, sym, ap, subst, ◌∙◌, append_assoc}
use Rattle.std.proofs.lemmas.List.{map-append}
use Rattle.std.proofs.lemmas.List.Elements.{All-head, All-tail}
use Rattle.std.specs.List.{flat_map, All}
use Rattle.rst_tree.specs.Modules.{PlainModule}
use Rattle.rst_names.specs.Declarations.{signals}
use Rattle.rst_instances.specs.Places.{Place, Located, below, located_from}
use Rattle.rst_instances.proofs.PlaceLemmas.{below-none}

-- an instance alone, at the least depth
pub below_alone : {X : Type 0} (modules : List PlainModule) (view : X → Place) (old new : List X) (x : X) (depth : ℕ) → new ≡ old ++ x ∷ [] → depth ≡ 0 → map view new ≡ map view old ++ below depth modules (view x)
below_alone modules view old new x depth pushed none =
    ap (map view) pushed ∙ map-append view old (x ∷ []) ∙ ap (λ l. map view old ++ l) (sym (below-none modules (view x)) ∙ ap (λ (n : ℕ). below n modules (view x)) (sym none))

pub below_step : (n : ℕ) (modules : List PlainModule) (made next ps front all : List Place) (p : Place) → front ≡ p ∷ ps → next ≡ made ++ below n modules p → made ++ flat_map (below n modules) front ≡ all
    → next ++ flat_map (below n modules) ps ≡ all
below_step n modules made next ps front all p is more left =
    ap (λ l. l ++ flat_map (below n modules) ps) more ∙ append_assoc made (below n modules p) (flat_map (below n modules) ps) ∙ ap (λ l. made ++ flat_map (below n modules) l) (sym is) ∙ left

pub located_step : (made all : List Located) (one : Located) (base next : ℕ) (p : Place) (ps front : List Place) → front ≡ p ∷ ps → one ≡ record { place = p; base = base } → next ≡ base + length (signals p.of)
    → made ++ located_from base front ≡ all → (made ++ one ∷ []) ++ located_from next ps ≡ all
located_step made all one base next p ps front is same after left =
    append_assoc made (one ∷ []) (located_from next ps) ∙ ap (λ (l : Located). made ++ l ∷ located_from next ps) same
    ∙ ap (λ (n : ℕ). made ++ record { place = p; base = base } ∷ located_from n ps) after ∙ ap (λ l. made ++ located_from base l) (sym is) ∙ left

-- what holds of all that are left holds of the next one and of the others
pub next_one : {X : Type 0} (P : X → Type 0) (xs rest : List X) (x : X) → xs ≡ x ∷ rest → All P xs → P x
next_one P xs rest x is all = All-head P x rest (subst (All P) is all)

pub other_ones : {X : Type 0} (P : X → Type 0) (xs rest : List X) (x : X) → xs ≡ x ∷ rest → All P xs → All P rest
other_ones P xs rest x is all = All-tail P x rest (subst (All P) is all)
