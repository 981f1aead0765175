-- What holds of each word of a list holds of a text that is listed.
use Rattle.std.proofs.Common.{◌≡◌, ℕ, Bool, true, false, not, List, [], ◌∷◌, Option, Some, None, refl, sym, subst, inl, inr, bytes_eq}
use Rattle.std.specs.List.{list_all}
use Rattle.std.specs.Option.{is_none, option_map}
use Rattle.std.proofs.lemmas.Bool.{and_parts, or_cases}
use Rattle.rst_outside.proofs.Lookups.{bytes_eq-tells}
use Rattle.rst_lex.specs.Words.{is_listed}

same_bytes : (a b : List ℕ) → bytes_eq a b ≡ true → a ≡ b
same_bytes a b e = elim (bytes_eq-tells a b) [ inl same ↦ same.1 | inr other ↦ absurd (both (bytes_eq a b) e other.0) ]
  where
    both : (c : Bool) → c ≡ true → c ≡ false → ⊥
    both c t f = cc

pub each_listed : (p : List ℕ → Bool) (words : List (List ℕ)) (text : List ℕ) → list_all p words ≡ true → is_listed words text ≡ true → p text ≡ true
each_listed p [] text all is = absurd cc
each_listed p (word ∷ words) text all is =
    let parts = and_parts (p word) (list_all p words) all in
    elim (or_cases (bytes_eq word text) (is_listed words text) is) [
      | inl same ↦ subst (λ (t : List ℕ). p t ≡ true) (same_bytes word text same) parts.0
      | inr more ↦ each_listed p words text parts.1 more
    ]

abbrev pub agree : Bool → Bool → Bool
agree true b = b
agree false b = not b

pub agree_same : (a b : Bool) → agree a b ≡ true → a ≡ b
agree_same true b e = sym e
agree_same false true e = absurd cc
agree_same false false e = refl

pub none_mapped : {X Y : Type 0} (f : X → Y) (o : Option X) → is_none (option_map f o) ≡ is_none o
none_mapped f (Some x) = refl
none_mapped f None = refl
