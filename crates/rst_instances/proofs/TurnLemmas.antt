-- Turns and ends of loops over lists whose elements are seen by a view.
use Rattle.std.proofs.Common.{◌≡◌, ℕ, ◌+◌, ◌<◌, ◌≤◌, List, [], ◌∷◌, ◌++◌, length, get_or, drop, map, Some, None, slice_get, refl, sym, ap, subst, ◌∙◌, append_assoc, append-nil, drop_of_length-le}
use Rattle.std.proofs.lemmas.List.{map-append, drop-map}
use Rattle.std.proofs.lemmas.Option.{slice_get-map}
use Rattle.std.specs.List.{flat_map, All}
use Rattle.std.specs.Option.{option_map}
use Rattle.rst_names.specs.declared.faults.ElabError.{ElabError}
use Rattle.rst_names.specs.Faults.{Fault, Refuses, first}
use Rattle.rst_names.proofs.Turns.{at, read}
use Rattle.rst_names.proofs.RowLemmas.{row_refuses, row_goes_on}

-- the element of a turn, and what holds of it
pub seen_at : {X Y : Type 0} (view : X → Y) (xs ys : List X) (i : ℕ) (x : X) → xs ≡ ys → i < length xs → x ≡ get_or xs i x → slice_get (map view ys) i ≡ Some (view x)
seen_at view xs ys i x same within is = slice_get-map view ys i ∙ ap (option_map view) (ap (λ l. slice_get l i) (sym same) ∙ read xs i x within is)

pub there_at : {X : Type 0} (xs ys : List X) (i : ℕ) (x : X) → xs ≡ ys → i < length xs → x ≡ get_or xs i x → slice_get ys i ≡ Some x
there_at xs ys i x same within is = ap (λ l. slice_get l i) (sym same) ∙ read xs i x within is

pub all_at : {X : Type 0} (P : X → Type 0) (xs : List X) (i : ℕ) (x : X) → All P xs → i < length xs → x ≡ get_or xs i x → P x
all_at P xs i x all within is = subst P (sym is) (all i x within)

-- a row over a list: what is left has the first fault of all
module _ {X Y : Type 0} (view : X → Y) (row : Y → List Fault) (xs : List X) (i : ℕ) (x : X) (within : i < length xs) (is : x ≡ get_or xs i x)
    (left : first (flat_map row (map view (drop i xs))) ≡ first (flat_map row (map view xs))) where
  begun : first (flat_map row (drop i (map view xs))) ≡ first (flat_map row (map view xs))
  begun = ap (λ l. first (flat_map row l)) (drop-map view i xs) ∙ left

  pub view_refuses : (e : ElabError) → Refuses e (row (view x)) → Refuses e (flat_map row (map view xs))
  view_refuses e h = row_refuses row (map view xs) i (view x) e (seen_at view xs xs i x refl within is) begun h

  pub view_goes_on : first (row (view x)) ≡ None → first (flat_map row (map view (drop (i + 1) xs))) ≡ first (flat_map row (map view xs))
  view_goes_on none = ap (λ l. first (flat_map row l)) (sym (drop-map view (i + 1) xs)) ∙ row_goes_on row (map view xs) i (view x) (seen_at view xs xs i x refl within is) begun none

-- a list that is built: what is made, and what is left to make
pub built_more : {S T A : Type 0} (view : A → T) (f : S → T) (xs : List S) (i : ℕ) (x : S) (made new : List A) (a : A) (all : List T) → slice_get xs i ≡ Some x → new ≡ made ++ a ∷ [] → view a ≡ f x
    → map view made ++ map f (drop i xs) ≡ all → map view new ++ map f (drop (i + 1) xs) ≡ all
built_more view f xs i x made new a all is pushed same left =
    ap (λ l. map view l ++ map f (drop (i + 1) xs)) pushed ∙ ap (λ l. l ++ map f (drop (i + 1) xs)) (map-append view made (a ∷ []))
    ∙ append_assoc (map view made) (view a ∷ []) (map f (drop (i + 1) xs)) ∙ ap (λ t. map view made ++ t ∷ map f (drop (i + 1) xs)) same
    ∙ ap (λ l. map view made ++ map f l) (sym (at xs i x is).back) ∙ left

pub built_end : {S T : Type 0} (f : S → T) (xs : List S) (i : ℕ) (made all : List T) → length xs ≤ i → made ++ map f (drop i xs) ≡ all → made ≡ all
built_end f xs i made all past left = sym (append-nil made) ∙ ap (λ l. made ++ map f l) (sym (drop_of_length-le xs past)) ∙ left

-- the same where the elements are shown first
pub shown_more : {S U T A : Type 0} (view : A → T) (show : S → U) (f : U → T) (xs : List S) (i : ℕ) (x : S) (made new : List A) (a : A) (all : List T) → slice_get xs i ≡ Some x → new ≡ made ++ a ∷ [] → view a ≡ f (show x)
    → map view made ++ map f (map show (drop i xs)) ≡ all → map view new ++ map f (map show (drop (i + 1) xs)) ≡ all
shown_more view show f xs i x made new a all is pushed same left =
    ap (λ l. map view l ++ map f (map show (drop (i + 1) xs))) pushed ∙ ap (λ l. l ++ map f (map show (drop (i + 1) xs))) (map-append view made (a ∷ []))
    ∙ append_assoc (map view made) (view a ∷ []) (map f (map show (drop (i + 1) xs))) ∙ ap (λ t. map view made ++ t ∷ map f (map show (drop (i + 1) xs))) same
    ∙ ap (λ l. map view made ++ map f (map show l)) (sym (at xs i x is).back) ∙ left

pub shown_end : {S U T : Type 0} (show : S → U) (f : U → T) (xs : List S) (i : ℕ) (made all : List T) → length xs ≤ i → made ++ map f (map show (drop i xs)) ≡ all → made ≡ all
shown_end show f xs i made all past left = sym (append-nil made) ∙ ap (λ l. made ++ map f (map show l)) (sym (drop_of_length-le xs past)) ∙ left

pub map_through : {X Y Z : Type 0} (g : Y → Z) (f : X → Y) (xs : List X) → map g (map f xs) ≡ map (λ x. g (f x)) xs
map_through g f [] = refl
map_through g f (x ∷ xs) = ap (λ l. g (f x) ∷ l) (map_through g f xs)
