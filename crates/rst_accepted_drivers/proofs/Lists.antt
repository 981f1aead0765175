-- Members of lists that are joined, mapped, numbered and searched, and rows without a fault.
use Rattle.std.proofs.Common.{◌≡◌, ℕ, zero, suc, ◌+◌, Bool, true, false, cond, inl, inr, List, [], ◌∷◌, ◌++◌, map, filter, refl, sym, ◌∙◌, ap, subst, arith, Option, Some, None}
use Rattle.std.specs.List.{AllByRecursion, Contains, list_any, find, flat_map, filter_map, cons_option, slice_get, enumerate_from}
use Rattle.std.proofs.lemmas.Bool.{or_parts}
use Rattle.rst_names.specs.declared.faults.ElabCode.{ElabCode}
use Rattle.rst_tree.specs.Trees.{Text}
use Rattle.rst_names.specs.Faults.{first, fault_if}
use Rattle.rst_flow.proofs.Members.{In, in_either, in_left, in_right, at_in}
use Rattle.rst_settled.proofs.Members.{at_of}
use Rattle.rst_accepted.proofs.Rows.{left_none, right_none}

pub of_contains : {X : Type 0} (xs : List X) (x : X) → Contains xs x → In x xs
of_contains xs x within = at_in x xs within.0 (at_of xs x within)

pub clash : (b : Bool) → b ≡ false → b ≡ true → ⊥
clash b f t = cc

-- ---- joined and mapped

pub record Source (X Y : Type 0) (f : X → List Y) (xs : List X) (y : Y) : Type 0 where
  pub of : X
  pub there : In of xs
  pub within : In y (f of)

pub in_flat_map : {X Y : Type 0} (f : X → List Y) (xs : List X) (y : Y) → In y (flat_map f xs) → Source X Y f xs y
in_flat_map f [] y h = absurd h
in_flat_map f (x ∷ xs) y h = elim (in_either y (f x) (flat_map f xs) h) [
  | inl a ↦ record { of = x; there = inl refl; within = a }
  | inr b ↦ let r = in_flat_map f xs y b in record { of = r.of; there = inr r.there; within = r.within }
]

pub flat_map_in : {X Y : Type 0} (f : X → List Y) (xs : List X) (x : X) (y : Y) → In x xs → In y (f x) → In y (flat_map f xs)
flat_map_in f [] x y h k = absurd h
flat_map_in f (z ∷ xs) x y (inl e) k = in_left y (f z) (flat_map f xs) (subst (λ w. In y (f w)) (sym e) k)
flat_map_in f (z ∷ xs) x y (inr h) k = in_right y (f z) (flat_map f xs) (flat_map_in f xs x y h k)

pub record Image (X Y : Type 0) (f : X → Y) (xs : List X) (y : Y) : Type 0 where
  pub of : X
  pub there : In of xs
  pub is : f of ≡ y

pub in_map : {X Y : Type 0} (f : X → Y) (xs : List X) (y : Y) → In y (map f xs) → Image X Y f xs y
in_map f [] y h = absurd h
in_map f (x ∷ xs) y (inl e) = record { of = x; there = inl refl; is = e }
in_map f (x ∷ xs) y (inr h) = let r = in_map f xs y h in record { of = r.of; there = inr r.there; is = r.is }

pub map_in : {X Y : Type 0} (f : X → Y) (xs : List X) (x : X) → In x xs → In (f x) (map f xs)
map_in f [] x h = absurd h
map_in f (y ∷ xs) x (inl e) = inl (ap f e)
map_in f (y ∷ xs) x (inr h) = inr (map_in f xs x h)

-- what a list holds alone
pub in_one : {X : Type 0} (x y : X) → In y (x ∷ []) → x ≡ y
in_one x y (inl e) = e
in_one x y (inr h) = absurd h

pub one_of : {X : Type 0} (P : X → Type 0) (xs : List X) → AllByRecursion P xs → (x : X) → In x xs → P x
one_of P [] all x h = absurd h
one_of P (y ∷ xs) all x (inl e) = subst P e all.0
one_of P (y ∷ xs) all x (inr h) = one_of P xs all.1 x h

-- ---- numbered

pub record Numbered (X : Type 0) (base : ℕ) (xs : List X) (n : ℕ) (x : X) : Type 0 where
  pub place : ℕ
  pub is : n ≡ base + place
  pub at : slice_get xs place ≡ Some x

pub in_numbered : {X : Type 0} (base : ℕ) (xs : List X) (p : ℕ × X) → In p (enumerate_from base xs) → Numbered X base xs p.0 p.1
in_numbered base [] p h = absurd h
in_numbered {X} base (x ∷ xs) p (inl e) = record { place = 0; is = zero_more p.0 base (sym (ap (λ (q : ℕ × X). q.0) e)); at = ap (λ (q : ℕ × X). Some q.1) e }
  where
    zero_more : (n b : ℕ) → n ≡ b → n ≡ b + 0
    zero_more n b e = omega arith
in_numbered base (x ∷ xs) p (inr h) =
    let r = in_numbered (base + 1) xs p h in
    record { place = suc r.place; is = later p.0 base r.place r.is; at = r.at }
  where
    later : (n b k : ℕ) → n ≡ (b + 1) + k → n ≡ b + suc k
    later n b k e = omega arith

pub numbered_in : {X : Type 0} (base : ℕ) (xs : List X) (k : ℕ) (x : X) → slice_get xs k ≡ Some x → In (base + k, x) (enumerate_from base xs)
numbered_in base [] k x e = absurd cc
numbered_in {X} base (y ∷ xs) zero x e = inl (λ i. (start base i, one y x e i))
  where
    start : (b : ℕ) → b ≡ b + 0
    start b = omega arith

    one : (y x : X) → Some y ≡ Some x → y ≡ x
    one y x e = cc
numbered_in {X} base (y ∷ xs) (suc k) x e =
    inr (subst (λ n. In (n, x) (enumerate_from (base + 1) xs)) (next base k) (numbered_in (base + 1) xs k x e))
  where
    next : (b k : ℕ) → (b + 1) + k ≡ b + suc k
    next b k = omega arith

-- ---- searched

pub find_in : {X : Type 0} (p : X → Bool) (xs : List X) (x : X) → find p xs ≡ Some x → In x xs × (p x ≡ true)
find_in p [] x e = absurd cc
find_in {X} p (y ∷ xs) x e = by (p y) refl (find_in p xs x) e
  where
    by : (b : Bool) → p y ≡ b → (find p xs ≡ Some x → In x xs × (p x ≡ true)) → cond b (Some y) (find p xs) ≡ Some x → In x (y ∷ xs) × (p x ≡ true)
    by true h later k = let same : y ≡ x = cc in (inl same, subst (λ z. p z ≡ true) same h)
    by false h later k = let r = later k in (inr r.0, r.1)

pub in_filter : {X : Type 0} (p : X → Bool) (xs : List X) (x : X) → In x (filter p xs) → In x xs × (p x ≡ true)
in_filter p [] x h = absurd h
in_filter {X} p (y ∷ xs) x h = by (p y) refl (in_filter p xs x) h
  where
    by : (b : Bool) → p y ≡ b → (In x (filter p xs) → In x xs × (p x ≡ true)) → In x (cond b (y ∷ filter p xs) (filter p xs)) → In x (y ∷ xs) × (p x ≡ true)
    by true e later (inl same) = (inl same, sym (ap p same) ∙ e)
    by true e later (inr k) = let r = later k in (inr r.0, r.1)
    by false e later k = let r = later k in (inr r.0, r.1)

pub filter_in : {X : Type 0} (p : X → Bool) (xs : List X) (x : X) → In x xs → p x ≡ true → In x (filter p xs)
filter_in p [] x h e = absurd h
filter_in {X} p (y ∷ xs) x h e = by (p y) refl (λ i. filter_in p xs x i e) h
  where
    by : (b : Bool) → p y ≡ b → (In x xs → In x (filter p xs)) → In x (y ∷ xs) → In x (cond b (y ∷ filter p xs) (filter p xs))
    by true k later (inl same) = inl same
    by true k later (inr i) = inr (later i)
    by false k later (inl same) = absurd (clash (p y) k (ap p same ∙ e))
    by false k later (inr i) = later i

pub record Chosen (X Y : Type 0) (f : X → Option Y) (xs : List X) (y : Y) : Type 0 where
  pub of : X
  pub there : In of xs
  pub is : f of ≡ Some y

pub in_filter_map : {X Y : Type 0} (f : X → Option Y) (xs : List X) (y : Y) → In y (filter_map f xs) → Chosen X Y f xs y
in_filter_map f [] y h = absurd h
in_filter_map {X} {Y} f (x ∷ xs) y h = by (f x) refl (in_filter_map f xs y) h
  where
    by : (o : Option Y) → f x ≡ o → (In y (filter_map f xs) → Chosen X Y f xs y) → In y (cons_option o (filter_map f xs)) → Chosen X Y f (x ∷ xs) y
    by None e later k = let r = later k in record { of = r.of; there = inr r.there; is = r.is }
    by (Some z) e later (inl same) = record { of = x; there = inl refl; is = e ∙ ap Some same }
    by (Some z) e later (inr k) = let r = later k in record { of = r.of; there = inr r.there; is = r.is }

-- ---- rows without a fault

pub none_at : {X Y : Type 0} (f : X → List Y) (xs : List X) (x : X) → first (flat_map f xs) ≡ None → In x xs → first (f x) ≡ None
none_at f [] x h k = absurd k
none_at f (y ∷ xs) x h (inl e) = subst (λ z. first (f z) ≡ None) e (left_none (f y) (flat_map f xs) h)
none_at f (y ∷ xs) x h (inr k) = none_at f xs x (right_none (f y) (flat_map f xs) h) k

pub nothing_in : {X : Type 0} (xs : List X) (x : X) → first xs ≡ None → In x xs → ⊥
nothing_in [] x h k = k
nothing_in (y ∷ xs) x h k = absurd cc

pub no_fault : (b : Bool) (c : ElabCode) (name : Text) (n : ℕ) → first (fault_if b c name n) ≡ None → b ≡ false
no_fault true c name n e = absurd cc
no_fault false c name n e = refl

pub none_any : {X : Type 0} (p : X → Bool) (xs : List X) (x : X) → list_any p xs ≡ false → In x xs → p x ≡ false
none_any p [] x h k = absurd k
none_any p (y ∷ xs) x h (inl e) = subst (λ z. p z ≡ false) e (or_parts (p y) (list_any p xs) h).0
none_any p (y ∷ xs) x h (inr k) = none_any p xs x (or_parts (p y) (list_any p xs) h).1 k
