-- One turn of a loop over what a list shows: what is left has the faults of all.
use Rattle.std.proofs.Common.{◌≡◌, ℕ, ◌+◌, List, [], ◌∷◌, ◌++◌, map, drop, Some, slice_get, sym, ap, subst, ◌∙◌, append_assoc}
use Rattle.std.specs.List.{flat_map}
use Rattle.rst_width.specs.declared.typed_expr.WidthFault.{WidthFault}
use Rattle.rst_names.specs.declared.faults.ElabError.{ElabError}
use Rattle.rst_names.specs.Faults.{Fault, first, Refuses, Tells}
use Rattle.rst_names.proofs.Turns.{at}
use Rattle.rst_names.proofs.RowLemmas.{refuses_head, refuses_front, refuses_same}
use Rattle.rst_typing.specs.Refusals.{IsFirst}
use Rattle.rst_typing.proofs.Faults.{is_first-front, is_first-same}

module _ {X Y : Type 0} (view : X → Y) (xs : List X) (i : ℕ) (x : X) (is : slice_get xs i ≡ Some x) where
  -- what is left begins with this element
  pub opened : map view (drop i xs) ≡ view x ∷ map view (drop (i + 1) xs)
  opened = ap (map view) (at xs i x is).back

  -- a row refuses at this element
  pub row_stops : (row : Y → List Fault) (e : ElabError) → first (flat_map row (map view (drop i xs))) ≡ first (flat_map row (map view xs))
      → Refuses e (row (view x)) → Refuses e (flat_map row (map view xs))
  row_stops row e left h =
      refuses_same e (row (view x) ++ flat_map row (map view (drop (i + 1) xs))) (flat_map row (map view xs))
      (ap (λ l. first (flat_map row l)) (sym opened) ∙ left)
      (refuses_front e (row (view x)) (flat_map row (map view (drop (i + 1) xs))) h)

  -- the first fault of an expression is at this element
  pub faults_stop : (row : Y → List WidthFault) (e : WidthFault) → flat_map row (map view (drop i xs)) ≡ flat_map row (map view xs)
      → IsFirst e (row (view x)) → IsFirst e (flat_map row (map view xs))
  faults_stop row e left h =
      is_first-same e (row (view x) ++ flat_map row (map view (drop (i + 1) xs))) (flat_map row (map view xs))
      (ap (flat_map row) (sym opened) ∙ left)
      (is_first-front e (row (view x)) (flat_map row (map view (drop (i + 1) xs))) h)

  -- what is made, and what is left to make, are the whole
  pub made_further : {Z : Type 0} (f : Y → List Z) (before after whole : List Z) → before ++ flat_map f (map view (drop i xs)) ≡ whole → after ≡ before ++ f (view x)
      → after ++ flat_map f (map view (drop (i + 1) xs)) ≡ whole
  made_further f before after whole h gives =
      ap (λ l. l ++ flat_map f (map view (drop (i + 1) xs))) gives ∙ append_assoc before (f (view x)) (flat_map f (map view (drop (i + 1) xs)))
      ∙ ap (λ l. before ++ flat_map f l) (sym opened) ∙ h

  pub faults_further : (row : Y → List WidthFault) (whole : List WidthFault) → flat_map row (map view (drop i xs)) ≡ whole → row (view x) ≡ []
      → flat_map row (map view (drop (i + 1) xs)) ≡ whole
  faults_further row whole h none = sym (ap (flat_map row) opened ∙ ap (λ l. l ++ flat_map row (map view (drop (i + 1) xs))) none) ∙ h

-- the same over a list that is not viewed
module _ {X : Type 0} (xs : List X) (i : ℕ) (x : X) (is : slice_get xs i ≡ Some x) where
  pub push_further : {Z : Type 0} (f : X → List Z) (before after whole : List Z) → before ++ flat_map f (drop i xs) ≡ whole → after ≡ before ++ f x
      → after ++ flat_map f (drop (i + 1) xs) ≡ whole
  push_further f before after whole h gives =
      ap (λ l. l ++ flat_map f (drop (i + 1) xs)) gives ∙ append_assoc before (f x) (flat_map f (drop (i + 1) xs))
      ∙ ap (λ l. before ++ flat_map f l) (sym (at xs i x is).back) ∙ h

-- the fault that the first of a list makes
pub refuses_made : {X : Type 0} (e : ElabError) (made : X → Fault) (xs : List X) (x : X) → first xs ≡ Some x → Tells e (made x) → Refuses e (map made xs)
refuses_made e made [] x is h = cc
refuses_made e made (y ∷ ys) x is h =
    let same : y ≡ x = cc in
    refuses_head e (made y) (map made ys) (subst (λ z. Tells e (made z)) (sym same) h)
