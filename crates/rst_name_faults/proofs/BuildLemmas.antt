-- One turn of a loop that builds a list or that reads a list by its elements' plain forms.
use Rattle.std.proofs.Common.{◌≡◌, ℕ, ◌+◌, ◌<◌, List, [], ◌∷◌, ◌++◌, length, map, drop, get_or, Option, Some, None, slice_get, Bor, sym, ap, subst, option_map, ◌∙◌, append_assoc}
use Rattle.std.specs.List.{All}
use Rattle.std.specs.Option.{option_copied}
use Rattle.std.specs.Slice.{IsItemAt}
use Rattle.std.proofs.lemmas.List.Elements.{All-get_or}
use Rattle.std.proofs.lemmas.Option.{slice_get-map, slice_get_within, slice_get_past, get_or_from_slice_get}
use Rattle.rst_names.proofs.Turns.{at, read}

-- the plain form of the element that a turn reads, where the slice has these elements
pub seen_at : {X Y : Type 0} (f : X → Y) (ys xs : List X) (i : ℕ) (x : X) → ys ≡ xs → i < length ys → x ≡ get_or ys i x → slice_get (map f xs) i ≡ Some (f x)
seen_at f ys xs i x same within is = ap (λ l. slice_get (map f l) i) (sym same) ∙ (slice_get-map f ys i ∙ ap (option_map f) (read ys i x within is))

-- one element more of what is built of each element
pub built : {X Y : Type 0} (f : X → Y) (xs : List X) (i : ℕ) (x : X) (y : Y) (made next all : List Y) → slice_get xs i ≡ Some x → next ≡ made ++ y ∷ [] → y ≡ f x
    → made ++ map f (drop i xs) ≡ all → next ++ map f (drop (i + 1) xs) ≡ all
built f xs i x y made next all is pushed value left =
    ap (λ l. l ++ map f (drop (i + 1) xs)) pushed ∙ (append_assoc made (y ∷ []) (map f (drop (i + 1) xs))
    ∙ (ap (λ v. made ++ v ∷ map f (drop (i + 1) xs)) value ∙ (ap (λ l. made ++ map f l) (sym (at xs i x is).back) ∙ left)))

-- what holds of all holds of the one at a place
pub all_at : {X : Type 0} (P : X → Type 0) (xs : List X) (i : ℕ) (x : X) → All P xs → slice_get xs i ≡ Some x → P x
all_at P xs i x all is = subst P (get_or_from_slice_get xs i x x is) (All-get_or P xs i x (slice_get_within xs i x is) all)

-- what a slice lends at an index
pub got : {X : Type 0} (xs : List X) (i : ℕ) (r : Option (Bor X)) → IsItemAt xs i r → option_copied r ≡ slice_get xs i
got xs i None h = sym (slice_get_past xs i h.3)
got xs i (Some x) h = sym (read xs i x.now h.3.0 h.1)
