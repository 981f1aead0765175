-- Words one behind the other from a place on: how many there are, and at which places they stand.
use Rattle.std.proofs.Common.{◌≡◌, ◌≤◌, ◌<◌, ◌+◌, ℕ, suc, List, [], ◌∷◌, map, length, refl, sym, subst, ap, inl, inr, arith}
use Rattle.std.proofs.lemmas.List.Elements.{Contains-push, Contains-append_left, Contains-append_right}
use Rattle.std.proofs.lemmas.Bool.{cases_eq}
use Rattle.std.specs.List.{Contains}
use Rattle.std.specs.Prelude.{string_bytes, IfSome}
use Rattle.std.proofs.lemmas.List.{length-map}
use Rattle.std.specs.declared.string.String.{String}
use Rattle.std.specs.declared.alloc.Global.{Global}
use Rattle.rst_loads.specs.declared.loading.Stop.{Stop}
use Rattle.rst_loads.specs.declared.loading.Stop.TheVariants.{Unread, TooLong, NoMemory}
use Rattle.rst_loads.specs.Loads.{failed_of, IsUnreadOf, IsUnreadIn}
use Rattle.rst_command.specs.Commands.{Word, words_from}

pub length_words : (place : ℕ) (texts : List (List ℕ)) → length (words_from place texts) ≡ length texts
length_words place [] = refl
length_words place (text ∷ texts) = ap suc (length_words (suc place) texts)

abbrev places_from : ℕ → List (List ℕ) → List ℕ
places_from place texts = map (λ (word : Word). word.place) (words_from place texts)

pub contains_words : (place : ℕ) (texts : List (List ℕ)) (at : ℕ) → place ≤ at → at < place + length texts → Contains (places_from place texts) at
contains_words place [] at from to = grind arith
contains_words place (text ∷ texts) at from to = elim (cases_eq at place) [
  | inl e ↦ subst (λ (x : ℕ). Contains (places_from place (text ∷ texts)) x) (sym e) (Contains-append_left (place ∷ []) (places_from (suc place) texts) place (Contains-push [] place))
  | inr apart ↦ Contains-append_right (place ∷ []) (places_from (suc place) texts) at (contains_words (suc place) texts at (omega arith) (omega arith))
]

-- the place that loads of these words stopped at, where one failed, is one of the places
pub stops_inside : (script first : ℕ) (words : List (String Global)) (stop : Stop) → IsUnreadIn first (first + length words) stop
    → IfSome (failed_of stop) (Contains (script ∷ places_from first (map string_bytes words)))
stops_inside script first words (Unread place) within =
    Contains-append_right (script ∷ []) (places_from first (map string_bytes words)) place
    (contains_words first (map string_bytes words) place within.0 (rw (length-map words string_bytes) within.1))
stops_inside script first words (TooLong place) within = tt
stops_inside script first words NoMemory within = tt

pub stops_first : (script : ℕ) (others : List ℕ) (stop : Stop) → IsUnreadOf script stop → IfSome (failed_of stop) (Contains (script ∷ others))
stops_first script others (Unread place) at = subst (λ (x : ℕ). Contains (script ∷ others) x) (sym at) (Contains-append_left (script ∷ []) others script (Contains-push [] script))
stops_first script others (TooLong place) at = tt
stops_first script others NoMemory at = tt
