-- Places of modules against modules: what is told at the places that a module's instances name is told of the modules that it places.
use Rattle.std.proofs.Common.{◌≡◌, ℕ, ◌+◌, ◌<◌, ◌≤◌, zero, suc, nat_lt, nat_eq, Bool, true, false, cond, List, [], ◌∷◌, length, map, get_or, Option, Some, None, slice_get, refl, sym, ap, option_map, ◌∙◌, arith}
use Rattle.std.specs.List.{position_or_len, list_any, filter_map, sum_by}
use Rattle.std.proofs.lemmas.Bool.Decides.{nat_tests}
use Rattle.std.proofs.lemmas.List.Folds.{find_at}
use Rattle.std.proofs.lemmas.List.Sums.{sum_by-cons}
use Rattle.std.proofs.lemmas.List.Quantifiers.{position-Some}
use Rattle.std.proofs.lemmas.Option.{slice_get-map, slice_get_past, get_or_from_slice_get}
use Rattle.rst_tree.specs.Trees.{Text}
use Rattle.rst_tree.specs.Modules.{PlainModule}
use Rattle.rst_names.specs.Names.{same_text}
use Rattle.rst_names.proofs.TableLemmas.{one_text}
use Rattle.rst_hierarchy.specs.Hierarchy.{module_named}
use Rattle.rst_hierarchy.specs.Tables.{place_named, places_named, is_place}

-- The module of a name and its place go together.
pub record Known (modules : List PlainModule) (name : Text) (k : ℕ) (x : PlainModule) : Type 0 where
  pub place : place_named modules name ≡ Some k
  pub of : module_named modules name ≡ Some x
  pub at : slice_get modules k ≡ Some x
  pub same : same_text x.name name ≡ true

pub record Unknown (modules : List PlainModule) (name : Text) : Type 0 where
  pub place : place_named modules name ≡ None
  pub of : module_named modules name ≡ None

pub data Naming (modules : List PlainModule) (name : Text) : Type 0 where
  known : (k : ℕ) (x : PlainModule) → Known modules name k x → Naming modules name
  unknown : Unknown modules name → Naming modules name

-- a place in a list has an element
stands : {X : Type 0} (xs : List X) (i : ℕ) → i < length xs → slice_get xs i ≡ None → ⊥
stands [] i h e = absurd (omega arith)
stands (x ∷ xs) zero h e = cc
stands (x ∷ xs) (suc i) h e = stands xs i (omega arith) e

module _ (modules : List PlainModule) (name : Text) where
  abbrev named : PlainModule → Bool
  named k = same_text k.name name

  abbrev first_place : ℕ
  first_place = position_or_len named modules

  placed : (o : Option PlainModule) → slice_get modules first_place ≡ o → nat_lt first_place (length modules) ≡ true → Naming modules name
  placed None is less =
      let within : first_place < length modules = grind (arith, nat_tests) in
      absurd (stands modules first_place within is)
  placed (Some x) is less =
      let place : place_named modules name ≡ Some first_place = ap (λ b. cond b (Some first_place) None) less in
      let told = position-Some named modules first_place x place in
      known first_place x (record {
        place = place;
        of = find_at named modules ∙ is;
        at = is;
        same = ap named (sym (get_or_from_slice_get modules first_place x x is)) ∙ told.1;
      })

  pub naming : Naming modules name
  naming = by (nat_lt first_place (length modules)) refl
    where
      by : (b : Bool) → nat_lt first_place (length modules) ≡ b → Naming modules name
      by true e = placed (slice_get modules first_place) refl e
      by false e =
          let past : length modules ≤ first_place = grind (arith, nat_tests) in
          unknown (record { place = ap (λ b. cond b (Some first_place) None) e; of = find_at named modules ∙ slice_get_past modules first_place past })

-- names without modules have no places
pub places-none : (modules : List PlainModule) (name : Text) → place_named modules name ≡ None → {C : Type 0} (cs : List C) → places_named modules (map (λ c. name) cs) ≡ []
places-none modules name none [] = refl
places-none modules name none (c ∷ cs) = rw none (places-none modules name none cs)

-- What is told at places, and what of modules.
module _ (modules : List PlainModule) where
  abbrev of_names : List Text → List PlainModule
  of_names names = filter_map (module_named modules) names

  -- the value at a place
  pub value_at : {Y : Type 0} (f : PlainModule → Y) (d : Y) (k : ℕ) (x : PlainModule) → slice_get modules k ≡ Some x → get_or (map f modules) k d ≡ f x
  value_at f d k x is = get_or_from_slice_get (map f modules) k (f x) d (slice_get-map f modules k ∙ ap (option_map f) is)

  pub any_at : (test : PlainModule → Bool) (names : List Text) → list_any (λ p. get_or (map test modules) p false) (places_named modules names) ≡ list_any test (of_names names)
  any_at test [] = refl
  any_at test (n ∷ ns) = by (naming modules n) (any_at test ns)
    where
      by : Naming modules n → list_any (λ p. get_or (map test modules) p false) (places_named modules ns) ≡ list_any test (of_names ns)
          → list_any (λ p. get_or (map test modules) p false) (places_named modules (n ∷ ns)) ≡ list_any test (of_names (n ∷ ns))
      by (known k x h) rest = rw (h.place, h.of, value_at test false k x h.at, rest) refl
      by (unknown h) rest = rw (h.place, h.of) rest

  pub sum_at : (f : PlainModule → ℕ) (names : List Text) → sum_by (λ p. get_or (map f modules) p 0) (places_named modules names) ≡ sum_by f (of_names names)
  sum_at f [] = refl
  sum_at f (n ∷ ns) = by (naming modules n) (sum_at f ns)
    where
      by : Naming modules n → sum_by (λ p. get_or (map f modules) p 0) (places_named modules ns) ≡ sum_by f (of_names ns)
          → sum_by (λ p. get_or (map f modules) p 0) (places_named modules (n ∷ ns)) ≡ sum_by f (of_names (n ∷ ns))
      by (known k x h) rest =
          rw (h.place, h.of)
          (sum_by-cons (λ p. get_or (map f modules) p 0) k (places_named modules ns) ∙ ap (λ v. v + sum_by (λ p. get_or (map f modules) p 0) (places_named modules ns)) (value_at f 0 k x h.at)
          ∙ ap (λ s. f x + s) rest ∙ sym (sum_by-cons f x (of_names ns)))
      by (unknown h) rest = rw (h.place, h.of) rest

  -- the place of a name is that of a module where the module has this name
  pub same_place : (name n : Text) (k : ℕ) (x : PlainModule) → Known modules n k x → is_place (place_named modules name) k ≡ same_text x.name name
  same_place name n k x h = by (place_named modules name) refl (same_text x.name name) refl
    where
      other : (w : ℕ) → place_named modules name ≡ Some w → same_text x.name name ≡ false → (c : Bool) → nat_eq k w ≡ c → c ≡ false
      other w is e false d = refl
      other w is e true d =
          let equal : w ≡ k = grind (arith, nat_tests) in
          let told = position-Some (λ y. same_text y.name name) modules w x is in
          let here : same_text x.name name ≡ true = ap (λ y. same_text y.name name) (sym (get_or_from_slice_get modules k x x h.at)) ∙ ap (λ j. same_text (get_or modules j x).name name) (sym equal) ∙ told.1 in
          cc

      by : (o : Option ℕ) → place_named modules name ≡ o → (b : Bool) → same_text x.name name ≡ b → is_place o k ≡ b
      by o is true e =
          let same : name ≡ n = sym (one_text x.name name e) ∙ one_text x.name n h.same in
          let place : o ≡ Some k = sym is ∙ ap (place_named modules) same ∙ h.place in
          let self : nat_eq k k ≡ true = grind (arith, nat_tests) in
          rw place self
      by None is false e = refl
      by (Some w) is false e = other w is e (nat_eq k w) refl

  -- one of the modules of these names has this name
  pub has_name : (name : Text) (names : List Text) → list_any (is_place (place_named modules name)) (places_named modules names) ≡ list_any (λ m. same_text m.name name) (of_names names)
  has_name name [] = refl
  has_name name (n ∷ ns) = by (naming modules n) (has_name name ns)
    where
      by : Naming modules n → list_any (is_place (place_named modules name)) (places_named modules ns) ≡ list_any (λ m. same_text m.name name) (of_names ns)
          → list_any (is_place (place_named modules name)) (places_named modules (n ∷ ns)) ≡ list_any (λ m. same_text m.name name) (of_names (n ∷ ns))
      by (known k x h) rest = rw (h.place, h.of, same_place name n k x h, rest) refl
      by (unknown h) rest = rw (h.place, h.of) rest
