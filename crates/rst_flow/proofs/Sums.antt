-- An order of all units leaves their sum as it is.
use Rattle.std.proofs.Common.{◌≡◌, ◌∙◌, refl, sym, ap, subst, ℕ, zero, suc, ◌+◌, ◌<◌, ◌≤◌, inl, inr, List, [], ◌∷◌, length, get_or, arith, Option, Some, None}
use Rattle.std.specs.List.{slice_get}
use Rattle.std.proofs.lemmas.Option.{get_or_from_slice_get}
use Rattle.rst_net.specs.Units.{PlainSignal, PlainDriver, PlainProcess}
use Rattle.rst_weight.specs.Weights.{unit_weight, units_weight, clocked_weight, parts_weight}
use Rattle.rst_flow.specs.Edges.{pick, picks, IsUnitOrder}
use Rattle.rst_flow.proofs.Members.{In, in_at, at_below, contains_in}
use Rattle.rst_flow.proofs.Picked.{is_choice}

abbrev total : (ℕ → ℕ) → List ℕ → ℕ
total f [] = 0
total f (v ∷ vs) = f v + total f vs

abbrev from : (ℕ → ℕ) → ℕ → ℕ → ℕ
from f k zero = 0
from f k (suc n) = f k + from f (suc k) n

abbrev Distinct : List ℕ → Type 0
Distinct [] = Unit {0}
Distinct (x ∷ xs) = (In x xs → ⊥) × Distinct xs

-- the list without a member
abbrev without : (x : ℕ) (xs : List ℕ) → In x xs → List ℕ
without x [] h = absurd h
without x (y ∷ ys) (inl e) = ys
without x (y ∷ ys) (inr h) = y ∷ without x ys h

total-without : (f : ℕ → ℕ) (x : ℕ) (xs : List ℕ) (h : In x xs) → total f xs ≡ f x + total f (without x xs h)
total-without f x [] h = absurd h
total-without f x (y ∷ ys) (inl e) = ap (λ z. f z + total f ys) e
total-without f x (y ∷ ys) (inr h) = let rest = total-without f x ys h in omega arith

without_in : (x : ℕ) (xs : List ℕ) (h : In x xs) (v : ℕ) → In v (without x xs h) → In v xs
without_in x [] h v i = absurd h
without_in x (y ∷ ys) (inl e) v i = inr i
without_in x (y ∷ ys) (inr h) v (inl e) = inl e
without_in x (y ∷ ys) (inr h) v (inr i) = inr (without_in x ys h v i)

in_without : (x : ℕ) (xs : List ℕ) (h : In x xs) (v : ℕ) → In v xs → (v ≡ x → ⊥) → In v (without x xs h)
in_without x [] h v i apart = absurd h
in_without x (y ∷ ys) (inl e) v (inl same) apart = absurd (apart (sym same ∙ e))
in_without x (y ∷ ys) (inl e) v (inr i) apart = i
in_without x (y ∷ ys) (inr h) v (inl same) apart = inl same
in_without x (y ∷ ys) (inr h) v (inr i) apart = inr (in_without x ys h v i apart)

gone : (x : ℕ) (xs : List ℕ) (h : In x xs) → Distinct xs → In x (without x xs h) → ⊥
gone x [] h d i = absurd h
gone x (y ∷ ys) (inl e) d i = d.0 (subst (λ z. In z ys) (sym e) i)
gone x (y ∷ ys) (inr h) d (inl e) = d.0 (subst (λ z. In z ys) (sym e) h)
gone x (y ∷ ys) (inr h) d (inr i) = gone x ys h d.1 i

still_distinct : (x : ℕ) (xs : List ℕ) (h : In x xs) → Distinct xs → Distinct (without x xs h)
still_distinct x [] h d = absurd h
still_distinct x (y ∷ ys) (inl e) d = d.1
still_distinct x (y ∷ ys) (inr h) d = (λ i. d.0 (without_in x ys h y i), still_distinct x ys h d.1)

sums : (f : ℕ → ℕ) (n k : ℕ) (xs : List ℕ) → Distinct xs → ((v : ℕ) → In v xs → (k ≤ v) × (v < k + n)) → ((v : ℕ) → k ≤ v → v < k + n → In v xs) → total f xs ≡ from f k n
sums f zero k [] d inside all = refl
sums f zero k (x ∷ xs) d inside all = let h = inside x (inl refl) in absurd (omega (arith, h.0, h.1))
sums f (suc n) k xs d inside all =
    let here = all k (omega arith) (omega arith) in
    let rest = without k xs here in
    let new = gone k xs here d in
    total-without f k xs here
    ∙ ap (λ m. f k + m) (sums f n (suc k) rest (still_distinct k xs here d)
    (λ v i. let h = inside v (without_in k xs here v i) in (apart_above k v h.0 (λ e. new (subst (λ z. In z rest) e i)), below v k n h.1))
    (λ v a b. in_without k xs here v (all v (omega arith) (omega arith)) (λ e. absurd (omega arith))))
  where
    apart_above : (k v : ℕ) → k ≤ v → (v ≡ k → ⊥) → suc k ≤ v
    apart_above k v a b = omega arith

    below : (v k n : ℕ) → v < k + suc n → v < suc k + n
    below v k n h = omega arith

-- ---- the units

module _ (signals : List PlainSignal) where
  abbrev weigh : Option PlainDriver → ℕ
  weigh None = 0
  weigh (Some unit) = unit_weight signals unit

  pick-weight : (o : Option PlainDriver) (rest : List PlainDriver) → units_weight signals (pick o rest) ≡ weigh o + units_weight signals rest
  pick-weight None rest = omega arith
  pick-weight (Some unit) rest = refl

  picks-weight : (units : List PlainDriver) (order : List ℕ) → units_weight signals (picks units order) ≡ total (λ v. weigh (slice_get units v)) order
  picks-weight units [] = refl
  picks-weight units (v ∷ order) =
      pick-weight (slice_get units v) (picks units order) ∙ ap (λ n. weigh (slice_get units v) + n) (picks-weight units order)

  units-weight : (units : List PlainDriver) (g : ℕ → ℕ) (k : ℕ) → ((j : ℕ) → g (k + j) ≡ weigh (slice_get units j)) → units_weight signals units ≡ from g k (length units)
  units-weight [] g k same = refl
  units-weight (unit ∷ units) g k same =
      let first : g k ≡ unit_weight signals unit = ap g (plus_zero k) ∙ same 0 in
      let rest = units-weight units g (suc k) (λ j. ap g (shift k j) ∙ same (suc j)) in
      omega arith
    where
      plus_zero : (k : ℕ) → k ≡ k + 0
      plus_zero k = omega arith

      shift : (k j : ℕ) → suc k + j ≡ k + suc j
      shift k j = omega arith

distinct : (xs : List ℕ) → ((j k : ℕ) → j < k → k < length xs → get_or xs j 0 ≡ get_or xs k 0 → ⊥) → Distinct xs
distinct [] once = tt
distinct (x ∷ xs) once = (
  λ h. let at = in_at x xs h in let below = at_below x xs at.0 at.1 in once 0 (suc at.0) (omega arith) (omega arith) (sym (get_or_from_slice_get xs at.0 x 0 at.1)),
  distinct xs (λ j k a b e. once (suc j) (suc k) (omega arith) (omega arith) e),
)

pub same_weight : (signals : List PlainSignal) (clocked : List PlainProcess) (count : ℕ) (units : List PlainDriver) (order : List ℕ) → IsUnitOrder count units order
    → parts_weight signals (picks units order) clocked ≡ parts_weight signals units clocked
same_weight signals clocked count units order o =
    let f = λ (v : ℕ). weigh signals (slice_get units v) in
    let choice = is_choice o.graph order o.steps in
    let vertices = o.edges.vertices in
    let inside : (v : ℕ) → In v order → (0 ≤ v) × (v < 0 + length units) =
    λ v h. let at = in_at v order h in let below = at_below v order at.0 at.1 in
    (omega arith, small v (length units) (length o.graph) (get_or order at.0 0) (get_or_from_slice_get order at.0 v 0 at.1) (choice.below at.0 below) vertices) in
    let whole : (v : ℕ) → 0 ≤ v → v < 0 + length units → In v order = λ v a b. contains_in order v (o.steps.whole v (omega (arith, vertices))) in
    ap (λ n. n + clocked_weight signals clocked)
    (picks-weight signals units order ∙ sums f (length units) 0 order (distinct order choice.once) inside whole ∙ sym (units-weight signals units f 0 (λ j. ap f (zero_plus j))))
  where
    zero_plus : (j : ℕ) → 0 + j ≡ j
    zero_plus j = omega arith

    small : (v n m x : ℕ) → x ≡ v → x < m → m ≡ n → v < 0 + n
    small v n m x e h g = omega arith
