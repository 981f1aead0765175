-- Elements of lists, and literals.
use Rattle.std.proofs.Common.{◌≡◌, ◌≢◌, ℕ, zero, suc, ◌<◌, ◌⊎◌, inl, inr, ℤ, pos, negsuc, Bool, true, false, not, List, [], ◌∷◌, map, take, drop, IsTrue, ◌↔◌, refl, sym, subst, ap, arith, unsigned_abs}
use Rattle.std.specs.List.{Contains}
use Rattle.std.specs.Ordering.{int_eq}
use Rattle.std.specs.Bool.{Decides}
use Rattle.std.proofs.lemmas.Bool.Decides.{Decides-int_eq}
use Rattle.std.proofs.lemmas.List.{take-append-drop}
use Rattle.std.proofs.lemmas.List.Elements.{Contains-append_left, Contains-append_right, Contains-append_cases, Contains-push_cases}
use Rattle.rst_clause.specs.Literals.{opposite, literal_holds, Holds}

pub Contains-nil : {X : Type 0} (x : X) → Contains [] x → ⊥
Contains-nil x (k, lt, e) = absurd (omega arith)

pub Contains-first : {X : Type 0} (x : X) (xs : List X) → Contains (x ∷ xs) x
Contains-first x xs = (0, omega arith, refl)

pub Contains-later : {X : Type 0} (y : X) (xs : List X) (x : X) → Contains xs x → Contains (y ∷ xs) x
Contains-later y xs x h = Contains-append_right (y ∷ []) xs x h

pub Contains-one : {X : Type 0} (y x : X) → Contains (y ∷ []) x → y ≡ x
Contains-one y x h = elim (Contains-push_cases [] y x h) [ inl n ↦ absurd (Contains-nil x n) | inr e ↦ e ]

pub Contains-cons_cases : {X : Type 0} (y : X) (xs : List X) (x : X) → Contains (y ∷ xs) x → (y ≡ x) ⊎ Contains xs x
Contains-cons_cases y xs x h =
    elim (Contains-append_cases (y ∷ []) xs x h) [ inl n ↦ inl (Contains-one y x n) | inr i ↦ inr i ]

pub Contains-map : {X Y : Type 0} (f : X → Y) (xs : List X) (x : X) → Contains xs x → Contains (map f xs) (f x)
Contains-map f [] x h = absurd (Contains-nil x h)
Contains-map f (y ∷ ys) x h = elim (Contains-cons_cases y ys x h) [
  | inl e ↦ subst (λ z. Contains (map f (y ∷ ys)) (f z)) e (Contains-first (f y) (map f ys))
  | inr i ↦ Contains-later (f y) (map f ys) (f x) (Contains-map f ys x i)
]

pub Contains-from_map : {X Y : Type 0} (f : X → Y) (xs : List X) (y : Y) → Contains (map f xs) y → (x : X) × Contains xs x × (y ≡ f x)
Contains-from_map f [] y h = absurd (Contains-nil y h)
Contains-from_map f (z ∷ zs) y h = elim (Contains-cons_cases (f z) (map f zs) y h) [
  | inl e ↦ (z, Contains-first z zs, sym e)
  | inr i ↦ let r : (x : _) × Contains zs x × (y ≡ f x) = Contains-from_map f zs y i in (r.0, Contains-later z zs r.0 r.1, r.2)
]

-- two signed numbers are the same or not
pub same_or_not : (k l : ℤ) → (k ≡ l) ⊎ (k ≢ l)
same_or_not k l = of_test (int_eq k l) (Decides-int_eq k l)
  where
    of_test : (b : Bool) → Decides b (k ≡ l) → (k ≡ l) ⊎ (k ≢ l)
    of_test true d = inl (d.0 refl)
    of_test false d = inr (λ e. let f : false ≡ true = d.1 e in cc)

pub opposite-opposite : (k : ℤ) → opposite (opposite k) ≡ k
opposite-opposite (pos zero) = refl
opposite-opposite (pos (suc n)) = refl
opposite-opposite (negsuc n) = refl

-- a literal and its opposite don't both hold
pub not_both : (v : ℕ → Bool) (k : ℤ) → literal_holds v k ≡ true → literal_holds v (opposite k) ≡ true → ⊥
not_both v (pos zero) h o = cc
not_both v (pos (suc n)) h o = let e : not true ≡ true = subst (λ b. not b ≡ true) h o in cc
not_both v (negsuc n) h o = let e : not true ≡ true = subst (λ b. not b ≡ true) o h in cc

-- and one of the two does
pub one_of_both : (v : ℕ → Bool) (k : ℤ) → 0 < unsigned_abs k → literal_holds v k ≡ false → literal_holds v (opposite k) ≡ true
one_of_both v (pos zero) z h = absurd (omega arith)
one_of_both v (pos (suc n)) z h = ap not h
one_of_both v (negsuc n) z h = inner (v (suc n)) h
  where
    inner : (b : Bool) → not b ≡ false → b ≡ true
    inner true e = refl
    inner false e = sym e

-- a clause holds, or all its literals are false
pub Holds-or : (v : ℕ → Bool) (c : List ℤ) → Holds v c ⊎ ((k : ℤ) → Contains c k → literal_holds v k ≡ false)
Holds-or v [] = inr (λ k h. absurd (Contains-nil k h))
Holds-or v (x ∷ xs) = step (literal_holds v x) refl (Holds-or v xs)
  where
    step : (b : Bool) → literal_holds v x ≡ b → Holds v xs ⊎ ((k : ℤ) → Contains xs k → literal_holds v k ≡ false)
        → Holds v (x ∷ xs) ⊎ ((k : ℤ) → Contains (x ∷ xs) k → literal_holds v k ≡ false)
    step true e r = inl (x, Contains-first x xs, e)
    step false e (inl r) = inl (r.0, Contains-later x xs r.0 r.1, r.2)
    step false e (inr r) = inr (λ k h. elim (Contains-cons_cases x xs k h) [
      | inl s ↦ subst (λ z. literal_holds v z ≡ false) s e
      | inr i ↦ r k i
    ])

pub Contains-take : {X : Type 0} (i : ℕ) (xs : List X) (x : X) → Contains (take i xs) x → Contains xs x
Contains-take i xs x h = subst (λ z. Contains z x) (take-append-drop i xs) (Contains-append_left (take i xs) (drop i xs) x h)

-- a test that was false
pub absent : (b : Bool) (P : Type 0) → IsTrue b ↔ P → b ≡ false → P → ⊥
absent b P i e p = let f : b ≡ true = i.1 p in cc
