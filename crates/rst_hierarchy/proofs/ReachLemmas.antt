-- Rows of marks against what leads where; marks of depth; counts of instances.
use Rattle.std.proofs.Common.{◌≡◌, ℕ, ◌+◌, zero, suc, min, Bool, true, false, ◌||◌, ◌&&◌, List, [], ◌∷◌, map, Some, slice_get, refl, sym, ap, ◌∙◌, arith}
use Rattle.std.specs.List.{list_any, sum_by, enumerate_from}
use Rattle.std.proofs.lemmas.List.Sums.{sum_by-cons}
use Rattle.rst_tree.specs.Trees.{Text}
use Rattle.rst_tree.specs.Modules.{PlainModule}
use Rattle.rst_names.specs.Names.{same_text}
use Rattle.rst_hierarchy.specs.Hierarchy.{leads, is_deep, instance_count, places_of, modules_placed}
use Rattle.rst_hierarchy.specs.Tables.{place_named, placed, is_place, mark_at, mark_in, rows_of, direct_row, leads_over, doubled_row, doubled, one_marked, counted}
use Rattle.rst_hierarchy.proofs.PlaceLemmas.{value_at, any_at, sum_at, has_name}

-- one map after the other
pub map_after : {X Y Z : Type 0} (f : Y → Z) (g : X → Y) (h : X → Z) → ((x : X) → f (g x) ≡ h x) → (xs : List X) → map f (map g xs) ≡ map h xs
map_after f g h each [] = refl
map_after f g h each (x ∷ xs) = rw (each x, map_after f g h each xs) refl

pub map_same : {X Y : Type 0} (f g : X → Y) → ((x : X) → f x ≡ g x) → (xs : List X) → map f xs ≡ map g xs
map_same f g each [] = refl
map_same f g each (x ∷ xs) = rw (each x, map_same f g each xs) refl

-- What is told by number of each element is told of the element.
module _ {X : Type 0} (f : X → Bool) (q : ℕ → Bool) (h : X → Bool) where
  abbrev Tells : ℕ → List X → Type 0
  Tells n xs = (i : ℕ) (x : X) → slice_get xs i ≡ Some x → q (n + i) ≡ h x

  here : (n : ℕ) (x : X) (xs : List X) → Tells n (x ∷ xs) → q n ≡ h x
  here n x xs all = let same : n ≡ n + 0 = omega arith in ap q same ∙ all 0 x refl

  behind : (n : ℕ) (x : X) (xs : List X) → Tells n (x ∷ xs) → Tells (n + 1) xs
  behind n x xs all i y is = let same : n + 1 + i ≡ n + suc i = omega arith in ap q same ∙ all (suc i) y is

  pub any_numbered : (n : ℕ) (xs : List X) → Tells n xs → list_any (λ p. p.1 && q p.0) (enumerate_from n (map f xs)) ≡ list_any (λ x. f x && h x) xs
  any_numbered n [] all = refl
  any_numbered n (x ∷ xs) all = rw (here n x xs all, any_numbered (n + 1) xs (behind n x xs all)) refl

  pub map_numbered : (n : ℕ) (xs : List X) → Tells n xs → map (λ p. p.1 || q p.0) (enumerate_from n (map f xs)) ≡ map (λ x. f x || h x) xs
  map_numbered n [] all = refl
  map_numbered n (x ∷ xs) all = rw (here n x xs all, map_numbered (n + 1) xs (behind n x xs all)) refl

from_zero : (j : ℕ) → 0 + j ≡ j
from_zero j = omega arith

one_more : (s : ℕ) → suc s ≡ 1 + s
one_more s = omega arith

-- the definitions, opened
leads-zero : (modules : List PlainModule) (m : PlainModule) (name : Text) → leads zero modules m name ≡ list_any (λ k. same_text k.name name) (modules_placed modules m)
unfolding leads
leads-zero modules m name = refl

leads-suc : (n : ℕ) (modules : List PlainModule) (m : PlainModule) (name : Text) → leads (suc n) modules m name ≡ (leads n modules m name || list_any (λ k. leads n modules m k.name && leads n modules k name) modules)
unfolding leads
leads-suc n modules m name = refl

is_deep-zero : (modules : List PlainModule) (m : PlainModule) → is_deep zero modules m ≡ true
unfolding is_deep
is_deep-zero modules m = refl

is_deep-suc : (n : ℕ) (modules : List PlainModule) (m : PlainModule) → is_deep (suc n) modules m ≡ list_any (is_deep n modules) (modules_placed modules m)
unfolding is_deep
is_deep-suc n modules m = refl

instance_count-zero : (modules : List PlainModule) (m : PlainModule) → instance_count zero modules m ≡ 1
unfolding instance_count
instance_count-zero modules m = refl

instance_count-suc : (n : ℕ) (modules : List PlainModule) (m : PlainModule) → instance_count (suc n) modules m ≡ suc (sum_by (instance_count n modules) (modules_placed modules m))
unfolding instance_count
instance_count-suc n modules m = refl

module _ (modules : List PlainModule) where
  -- the mark of two modules
  pub mark_of : (test : PlainModule → Text → Bool) (i j : ℕ) (m k : PlainModule) → slice_get modules i ≡ Some m → slice_get modules j ≡ Some k → mark_in (rows_of test modules) i j ≡ test m k.name
  mark_of test i j m k is at =
      ap (λ row. mark_at row j) (value_at modules (λ x. map (λ y. test x y.name) modules) [] i m is)
      ∙ value_at modules (λ y. test m y.name) false j k at

  -- one instance leads there
  pub direct-leads : map (direct_row modules) (map (placed modules) modules) ≡ rows_of (leads zero modules) modules
  direct-leads = map_after (direct_row modules) (placed modules) (λ m. map (λ k. leads zero modules m k.name) modules) each modules
    where
      each : (m : PlainModule) → direct_row modules (placed modules m) ≡ map (λ k. leads zero modules m k.name) modules
      each m =
          map_same (λ k. list_any (is_place (place_named modules k.name)) (placed modules m)) (λ k. leads zero modules m k.name)
          (λ k. has_name modules k.name (places_of m) ∙ sym (leads-zero modules m k.name)) modules

  -- at most twice as many lead there
  abbrev row_by : ℕ → PlainModule → List Bool
  row_by n m = map (λ k. leads n modules m k.name) modules

  over_by : (n : ℕ) (m : PlainModule) (i : ℕ) (k : PlainModule) → slice_get modules i ≡ Some k
      → leads_over (rows_of (leads n modules) modules) (row_by n m) i ≡ list_any (λ o. leads n modules m o.name && leads n modules o k.name) modules
  over_by n m i k is =
      any_numbered (λ o. leads n modules m o.name) (λ j. mark_in (rows_of (leads n modules) modules) j i) (λ o. leads n modules o k.name) 0 modules
      (λ j o at. ap (λ v. mark_in (rows_of (leads n modules) modules) v i) (from_zero j) ∙ mark_of (leads n modules) j i o k at is)

  doubled_by : (n : ℕ) (m : PlainModule) → doubled_row (rows_of (leads n modules) modules) (row_by n m) ≡ row_by (suc n) m
  doubled_by n m =
      map_numbered (λ k. leads n modules m k.name) (leads_over (rows_of (leads n modules) modules) (row_by n m))
      (λ k. list_any (λ o. leads n modules m o.name && leads n modules o k.name) modules) 0 modules
      (λ i k is. ap (leads_over (rows_of (leads n modules) modules) (row_by n m)) (from_zero i) ∙ over_by n m i k is)
      ∙ map_same (λ k. leads n modules m k.name || list_any (λ o. leads n modules m o.name && leads n modules o k.name) modules) (λ k. leads (suc n) modules m k.name)
      (λ k. sym (leads-suc n modules m k.name)) modules

  pub doubled-leads : (n : ℕ) → doubled (rows_of (leads n modules) modules) ≡ rows_of (leads (suc n) modules) modules
  doubled-leads n = map_after (doubled_row (rows_of (leads n modules) modules)) (row_by n) (row_by (suc n)) (doubled_by n) modules

  -- one instance deeper
  pub deeper : (n : ℕ) → map (one_marked (map (is_deep n modules) modules)) (map (placed modules) modules) ≡ map (is_deep (suc n) modules) modules
  deeper n = map_after (one_marked (map (is_deep n modules) modules)) (placed modules) (is_deep (suc n) modules)
      (λ m. any_at modules (is_deep n modules) (places_of m) ∙ sym (is_deep-suc n modules m)) modules

  -- what each module has, said of the lists of places
  each_of : {V Y : Type 0} (places : V → List ℕ) (vs : List V) (y : Y) (f : PlainModule → Y) → ((m : PlainModule) → y ≡ f m) → map places vs ≡ map (placed modules) modules → map (λ v. y) vs ≡ map f modules
  each_of places vs y f is same =
      sym (map_after (λ p. y) places (λ v. y) (λ v. refl) vs) ∙ ap (map (λ p. y)) same ∙ map_after (λ p. y) (placed modules) f is modules

  pub none_deep : {V : Type 0} (places : V → List ℕ) (vs : List V) → map places vs ≡ map (placed modules) modules → map (λ v. true) vs ≡ map (is_deep zero modules) modules
  none_deep places vs same = each_of places vs true (is_deep zero modules) (λ m. sym (is_deep-zero modules m)) same

  -- counts stop at 1,025
  abbrev pub capped : ℕ → PlainModule → ℕ
  capped n m = min (instance_count n modules m) 1025

  capped_sum : (f : PlainModule → ℕ) (a : ℕ) (xs : List PlainModule) → min (a + sum_by (λ x. min (f x) 1025) xs) 1025 ≡ min (a + sum_by f xs) 1025
  capped_sum f a [] = refl
  capped_sum f a (x ∷ xs) =
      let one = sum_by-cons (λ x. min (f x) 1025) x xs in
      let two = sum_by-cons f x xs in
      let rest = capped_sum f (a + min (f x) 1025) xs in
      omega arith

  pub all_single : {V : Type 0} (places : V → List ℕ) (vs : List V) → map places vs ≡ map (placed modules) modules → map (λ v. 1) vs ≡ map (capped zero) modules
  all_single places vs same = each_of places vs 1 (capped zero) (λ m. sym (ap (λ c. min c 1025) (instance_count-zero modules m))) same

  pub counted_more : (n : ℕ) → map (counted (map (capped n) modules)) (map (placed modules) modules) ≡ map (capped (suc n)) modules
  counted_more n = map_after (counted (map (capped n) modules)) (placed modules) (capped (suc n)) each modules
    where
      each : (m : PlainModule) → counted (map (capped n) modules) (placed modules m) ≡ capped (suc n) m
      each m =
          ap (λ s. min (suc s) 1025) (sum_at modules (capped n) (places_of m))
          ∙ ap (λ s. min s 1025) (one_more (sum_by (capped n) (modules_placed modules m)))
          ∙ capped_sum (instance_count n modules) 1 (modules_placed modules m)
          ∙ ap (λ s. min s 1025) (sym (one_more (sum_by (instance_count n modules) (modules_placed modules m))))
          ∙ sym (ap (λ c. min c 1025) (instance_count-suc n modules m))
