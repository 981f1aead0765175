-- Members of lists.
use Rattle.std.proofs.Common.{◌≡◌, ℕ, zero, suc, ◌<◌, Bool, true, false, cond, ◌||◌, ◌⊎◌, inl, inr, List, [], ◌∷◌, ◌++◌, length, refl, ◌∙◌, ap, arith, Option, Some, None}
use Rattle.std.specs.List.{Contains, list_any, slice_get}

abbrev pub In : {X : Type 0} → X → List X → Type 0
In x [] = ⊥
In x (y ∷ ys) = (y ≡ x) ⊎ In x ys

pub in_left : {X : Type 0} (x : X) (xs ys : List X) → In x xs → In x (xs ++ ys)
in_left x [] ys h = absurd h
in_left x (y ∷ xs) ys (inl e) = inl e
in_left x (y ∷ xs) ys (inr h) = inr (in_left x xs ys h)

pub in_right : {X : Type 0} (x : X) (xs ys : List X) → In x ys → In x (xs ++ ys)
in_right x [] ys h = h
in_right x (y ∷ xs) ys h = inr (in_right x xs ys h)

pub in_either : {X : Type 0} (x : X) (xs ys : List X) → In x (xs ++ ys) → In x xs ⊎ In x ys
in_either x [] ys h = inr h
in_either x (y ∷ xs) ys (inl e) = inl (inl e)
in_either x (y ∷ xs) ys (inr h) = elim (in_either x xs ys h) [
  | inl a ↦ inl (inr a)
  | inr b ↦ inr b
]

pub in_cond : {X : Type 0} (b : Bool) (x y : X) (xs : List X) → In y (cond b (x ∷ xs) xs) → ((b ≡ true) × (x ≡ y)) ⊎ In y xs
in_cond true x y xs (inl e) = inl (refl, e)
in_cond true x y xs (inr h) = inr h
in_cond false x y xs h = inr h

pub cond_in : {X : Type 0} (b : Bool) (x y : X) (xs : List X) → In y xs → In y (cond b (x ∷ xs) xs)
cond_in true x y xs h = inr h
cond_in false x y xs h = h

pub cond_here : {X : Type 0} (b : Bool) (x : X) (xs : List X) → b ≡ true → In x (cond b (x ∷ xs) xs)
cond_here true x xs e = inl refl
cond_here false x xs e = absurd cc

pub in_at : {X : Type 0} (x : X) (xs : List X) → In x xs → (k : ℕ) × (slice_get xs k ≡ Some x)
in_at x [] h = absurd h
in_at x (y ∷ xs) (inl e) = (0, ap Some e)
in_at x (y ∷ xs) (inr h) = let r = in_at x xs h in (suc r.0, r.1)

none_some : {X : Type 0} (x : X) → ◌≡◌ {A = Option X} None (Some x) → ⊥
none_some x e = cc

same_some : {X : Type 0} (x y : X) → Some x ≡ Some y → x ≡ y
same_some x y e = cc

pub at_in : {X : Type 0} (x : X) (xs : List X) (k : ℕ) → slice_get xs k ≡ Some x → In x xs
at_in x [] k e = absurd (none_some x e)
at_in x (y ∷ xs) zero e = inl (same_some y x e)
at_in x (y ∷ xs) (suc k) e = inr (at_in x xs k e)

pub at_below : {X : Type 0} (x : X) (xs : List X) (k : ℕ) → slice_get xs k ≡ Some x → k < length xs
at_below x [] k e = absurd (none_some x e)
at_below x (y ∷ xs) zero e = omega arith
at_below x (y ∷ xs) (suc k) e = let h : k < length xs = at_below x xs k e in omega arith

pub below_at : {X : Type 0} (xs : List X) (k : ℕ) → k < length xs → (x : X) × (slice_get xs k ≡ Some x)
below_at [] k h = absurd (omega arith)
below_at (y ∷ xs) zero h = (y, refl)
below_at (y ∷ xs) (suc k) h = below_at xs k (omega arith)

pub contains_in : (xs : List ℕ) (v : ℕ) → Contains xs v → In v xs
contains_in [] v (k, below, same) = absurd (omega arith)
contains_in (x ∷ xs) v (zero, below, same) = inl same
contains_in (x ∷ xs) v (suc k, below, same) = inr (contains_in xs v (k, omega arith, same))

pub in_contains : (xs : List ℕ) (v : ℕ) → In v xs → Contains xs v
in_contains [] v h = absurd h
in_contains (x ∷ xs) v (inl e) = (0, omega arith, e)
in_contains (x ∷ xs) v (inr h) = let r = in_contains xs v h in (suc r.0, omega (arith, r.1), r.2)

pub any_in : {X : Type 0} (p : X → Bool) (xs : List X) → list_any p xs ≡ true → (x : X) × In x xs × (p x ≡ true)
any_in p [] e = absurd cc
any_in p (x ∷ xs) e = first (p x) refl e (any_in p xs)
  where
    first : (b : Bool) → p x ≡ b → (b || list_any p xs) ≡ true → (list_any p xs ≡ true → (y : _) × In y xs × (p y ≡ true)) → (y : _) × In y (x ∷ xs) × (p y ≡ true)
    first true here e later = (x, inl refl, here)
    first false here e later = let r = later e in (r.0, inr r.1, r.2)

pub in_any : {X : Type 0} (p : X → Bool) (x : X) (xs : List X) → In x xs → p x ≡ true → list_any p xs ≡ true
in_any p x [] h e = absurd h
in_any p x (y ∷ xs) (inl same) e = rw (ap p same ∙ e) refl
in_any p x (y ∷ xs) (inr h) e = rw (in_any p x xs h e) (or_true (p y))
  where
    or_true : (b : Bool) → (b || true) ≡ true
    or_true true = refl
    or_true false = refl
