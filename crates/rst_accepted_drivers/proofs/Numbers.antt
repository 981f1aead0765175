-- The numbers of signals: which instance and which declaration a number is of.
use Rattle.std.proofs.Common.{◌≡◌, ℕ, zero, suc, ◌+◌, ◌-◌, ◌≤◌, true, List, [], ◌∷◌, ◌++◌, map, length, Option, Some, None, Result, Ok, Err, refl, sym, ap, ◌∙◌, inl, inr, arith}
use Rattle.std.specs.List.{flat_map, enumerate_from, slice_get, find}
use Rattle.std.specs.Option.{option_map}
use Rattle.std.proofs.lemmas.List.{length-map}
use Rattle.std.proofs.lemmas.Option.{same_Some}
use Rattle.rst_tree.specs.Trees.{Text}
use Rattle.rst_width.specs.Scopes.{Extent, Signal, Param}
use Rattle.rst_names.specs.Names.{same_text}
use Rattle.rst_names.specs.Declarations.{Declared, signals, signal_named, ports, inner_names}
use Rattle.rst_names.proofs.TableLemmas.{one_text}
use Rattle.rst_instances.specs.Parameters.{Known, known, known_value, known_values, Valued}
use Rattle.rst_instances.specs.Places.{Place, Located, located_from, known_signal, known_signals, names_at, extent_in}
use Rattle.rst_flow.proofs.Members.{In, in_either, at_in}
use Rattle.rst_accepted_drivers.proofs.Lists.{in_map, in_numbered, find_in, in_filter_map, Image}

-- ---- lists

pub get_left : {X : Type 0} (xs ys : List X) (k : ℕ) (x : X) → slice_get xs k ≡ Some x → slice_get (xs ++ ys) k ≡ Some x
get_left [] ys k x e = absurd cc
get_left (y ∷ xs) ys zero x e = e
get_left (y ∷ xs) ys (suc k) x e = get_left xs ys k x e

get_right : {X : Type 0} (xs ys : List X) (j : ℕ) → slice_get (xs ++ ys) (length xs + j) ≡ slice_get ys j
get_right [] ys j = ap (slice_get ys) (none_more j)
  where
    none_more : (j : ℕ) → 0 + j ≡ j
    none_more j = omega arith
get_right (x ∷ xs) ys j = ap (slice_get (x ∷ (xs ++ ys))) (one_more (length xs) j) ∙ get_right xs ys j
  where
    one_more : (n j : ℕ) → suc n + j ≡ suc (n + j)
    one_more n j = omega arith

length-numbered : {X : Type 0} (base : ℕ) (xs : List X) → length (enumerate_from base xs) ≡ length xs
length-numbered base [] = refl
length-numbered base (x ∷ xs) = ap suc (length-numbered (base + 1) xs)

get_numbered : {X Y : Type 0} (g : ℕ × X → Y) (base : ℕ) (xs : List X) (k : ℕ) (x : X) → slice_get xs k ≡ Some x → slice_get (map g (enumerate_from base xs)) k ≡ Some (g (base + k, x))
get_numbered g base [] k x e = absurd cc
get_numbered g base (y ∷ xs) zero x e = λ i. Some (g (start base i, same_Some y x e i))
  where
    start : (b : ℕ) → b ≡ b + 0
    start b = omega arith
get_numbered g base (y ∷ xs) (suc k) x e = get_numbered g (base + 1) xs k x e ∙ ap (λ n. Some (g (n, x))) (next base k)
  where
    next : (b k : ℕ) → (b + 1) + k ≡ b + suc k
    next b k = omega arith

pub get_mapped : {X Y : Type 0} (f : X → Y) (xs : List X) (k : ℕ) (x : X) → slice_get xs k ≡ Some x → slice_get (map f xs) k ≡ Some (f x)
get_mapped f [] k x e = absurd cc
get_mapped f (y ∷ xs) zero x e = ap (λ z. Some (f z)) (same_Some y x e)
get_mapped f (y ∷ xs) (suc k) x e = get_mapped f xs k x e

-- ---- what is made of each signal of some instances stands at the signal's number

module _ {X : Type 0} (f : Located → ℕ × Declared → X) where
  abbrev pub here : Located → List X
  here l = map (f l) (enumerate_from l.base (signals l.place.of))

  abbrev pub everywhere : List Located → List X
  everywhere ls = flat_map here ls

  behind : (base : ℕ) (ps : List Place) (l : Located) → In l (located_from base ps) → base ≤ l.base
  behind base [] l h = absurd h
  behind base (p ∷ ps) l (inl e) = let same : base ≡ l.base = ap (λ (x : Located). x.base) e in omega (arith, same)
  behind base (p ∷ ps) l (inr h) = let more = behind (base + length (signals p.of)) ps l h in omega (arith, more)

  length-here : (l : Located) → length (here l) ≡ length (signals l.place.of)
  length-here l = length-map (enumerate_from l.base (signals l.place.of)) (f l) ∙ length-numbered l.base (signals l.place.of)

  pub at_number : (base : ℕ) (ps : List Place) (l : Located) → In l (located_from base ps) → (k : ℕ) (d : Declared) → slice_get (signals l.place.of) k ≡ Some d
      → (j : ℕ) → l.base + k ≡ base + j → slice_get (everywhere (located_from base ps)) j ≡ Some (f l (l.base + k, d))
  at_number base [] l h k d at j e = absurd h
  at_number base (p ∷ ps) l (inl same) k d at j e =
      let first : Located = record { place = p; base = base } in
      let rest : List X = everywhere (located_from (base + length (signals p.of)) ps) in
      let bases : base ≡ l.base = ap (λ (x : Located). x.base) same in
      let places : k ≡ j = omega (arith, bases, e) in
      ap (λ n. slice_get (here first ++ rest) n) (sym places) ∙ ap (λ (x : Located). slice_get (here x ++ rest) k) same
      ∙ get_left (here l) rest k (f l (l.base + k, d)) (get_numbered (f l) l.base (signals l.place.of) k d at)
  at_number base (p ∷ ps) l (inr h) k d at j e =
      let first : Located = record { place = p; base = base } in
      let count : ℕ = length (signals p.of) in
      let rest : List X = everywhere (located_from (base + count) ps) in
      let far : base + count ≤ l.base = behind (base + count) ps l h in
      let long : length (here first) ≡ count = length-here first in
      let left : ℕ = j - count in
      let split : j ≡ length (here first) + left = omega (arith, far, long, e) in
      let numbers : l.base + k ≡ (base + count) + left = omega (arith, far, e) in
      ap (slice_get (here first ++ rest)) split ∙ (get_right (here first) rest left ∙ at_number (base + count) ps l h k d at left numbers)

-- ---- what a name stands for

-- a name of an instance is the signal of this number
pub record OfName (l : Located) (name : Text) (i : ℕ) : Type 0 where
  pub place : ℕ
  pub at : slice_get (signals l.place.of) place ≡ Some (signal_named l.place.of name)
  pub is : i ≡ l.base + place

-- each signal of a module is the one of its name
pub own_name : (names : List Text) (f : Text → Declared) → ((n : Text) → (f n).name ≡ n) → (k : ℕ) (d : Declared) → slice_get (map f names) k ≡ Some d → d ≡ f d.name
own_name names f named k d at =
    let one : Image Text Declared f names d = in_map f names d (at_in d (map f names) k at) in
    sym one.is ∙ ap f (sym (named one.of) ∙ ap (λ (x : Declared). x.name) one.is)

module _ (l : Located) (name : Text) where
  abbrev entries : List Known
  entries = known_values l.place.values ++ known_signals l

  no_value : (k : Known) (i : ℕ) (x : Extent) → In k (known_values l.place.values) → k.meaning ≡ Signal i x → ⊥
  no_value k i x h e = let one = in_filter_map known_value l.place.values k h in by one.of one.of.value refl one.is
    where
      by : (v : Valued) (r : Result _ _) → v.value ≡ r → known_value v ≡ Some k → ⊥
      by v (Ok w) is one =
          let made : Some (known v.name (Param w)) ≡ Some k = ap (λ z. elim z as (λ _. Option Known) [ Ok u ↦ Some (known v.name (Param u)) | Err f ↦ None ]) (sym is) ∙ one in
          let same : known v.name (Param w) ≡ k = same_Some (known v.name (Param w)) k made in
          let meant : Param w ≡ Signal i x = ap (λ (y : Known). y.meaning) same ∙ e in
          cc
      by v (Err f) is one =
          let made : None ≡ Some k = ap (λ z. elim z as (λ _. Option Known) [ Ok u ↦ Some (known v.name (Param u)) | Err g ↦ None ]) (sym is) ∙ one in
          cc

  found_signal : (k : Known) (i : ℕ) (x : Extent) → In k (known_signals l) → k.meaning ≡ Signal i x → same_text k.name name ≡ true → OfName l name i
  found_signal k i x h e same =
      let one : Image (ℕ × Declared) Known (known_signal l.place) (enumerate_from l.base (signals l.place.of)) k = in_map (known_signal l.place) (enumerate_from l.base (signals l.place.of)) k h in
      let there = in_numbered l.base (signals l.place.of) one.of one.there in
      let d : Declared = one.of.1 in
      let meant : Signal one.of.0 (extent_in l.place d) ≡ Signal i x = ap (λ (y : Known). y.meaning) one.is ∙ e in
      let number : one.of.0 ≡ i = cc in
      let text : d.name ≡ name = ap (λ (y : Known). y.name) one.is ∙ one_text k.name name same in
      let own : d ≡ signal_named l.place.of d.name = own_name (ports l.place.of ++ inner_names l.place.of) (signal_named l.place.of) (λ n. refl) there.place d there.at in
      record {
        place = there.place;
        at = there.at ∙ ap Some (own ∙ ap (signal_named l.place.of) text);
        is = sym number ∙ there.is;
      }

  pub named_signal : (i : ℕ) (x : Extent) → names_at l name ≡ Some (Signal i x) → OfName l name i
  named_signal i x e = by (find (λ k. same_text k.name name) entries) refl e
    where
      by : (o : Option Known) → find (λ k. same_text k.name name) entries ≡ o → option_map (λ k. k.meaning) o ≡ Some (Signal i x) → OfName l name i
      by None is meant = absurd cc
      by (Some k) is meant =
          let here = find_in (λ k. same_text k.name name) entries k is in
          let same : k.meaning ≡ Signal i x = same_Some k.meaning (Signal i x) meant in
          elim (in_either k (known_values l.place.values) (known_signals l) here.0) [
            | inl a ↦ absurd (no_value k i x a same)
            | inr b ↦ found_signal k i x b same here.1
          ]
