-- Points of a search: how they follow from one another as literals come and levels begin and end.
use Rattle.std.proofs.Common.{◌≡◌, ℕ, ◌≤◌, inl, inr, ℤ, List, [], ◌∷◌, ◌++◌, length, take, drop, refl, sym, ◌∙◌, subst, ap, arith}
use Rattle.std.specs.List.{Contains}
use Rattle.std.proofs.Math.Seq.{take-length}
use Rattle.std.proofs.lemmas.List.{take-append-le, take-append-drop, length-take}
use Rattle.std.proofs.lemmas.List.Elements.{Contains-append_left}
use Rattle.rst_clause.proofs.Members.{Contains-nil, Contains-first, Contains-later, Contains-cons_cases, Contains-take}
use Rattle.rst_watch.specs.Watching.{IsPoint, AreFloors}

-- for each point of the first kind there is one of the second at which no more stands and no less was propagated
abbrev pub Covers : (List ℤ → List ℤ → Type 0) → (List ℤ → List ℤ → Type 0) → Type 0
Covers New Old =
    (s' p' : List ℤ) → New s' p' → (s : List ℤ) × (p : List ℤ) × Old s p
    × ((k : ℤ) → Contains s k → Contains s' k) × ((k : ℤ) → Contains p' k → Contains p k)

-- equal lists
moves : (a b : List ℤ) → a ≡ b → (k : ℤ) → Contains a k → Contains b k
moves a b e k h = subst (λ z. Contains z k) e h

pub floor_le : (floors : List ℕ) (n : ℕ) → AreFloors floors n → (m : ℕ) → Contains floors m → m ≤ n
floor_le [] n a m h = absurd (Contains-nil m h)
floor_le (x ∷ xs) n a m h = elim (Contains-cons_cases x xs m h) [
  | inl e ↦ let le : x ≤ n = a.0 in omega (arith, e, le)
  | inr i ↦
      let le : x ≤ n = a.0 in
      let below : m ≤ x = floor_le xs x a.1 m i in
      omega (arith, le, below)
]

pub floors_more : (floors : List ℕ) (n m : ℕ) → n ≤ m → AreFloors floors n → AreFloors floors m
floors_more [] n m le a = tt
floors_more (x ∷ xs) n m le a = (let l : x ≤ n = a.0 in omega (arith, l, le), a.1)

-- what was propagated stands
pub propagated_stands : (t : List ℤ) (n : ℕ) (floors : List ℕ) (s p : List ℤ) → IsPoint t n floors s p → (k : ℤ) → Contains p k → Contains t k
propagated_stands t n floors s p a k h = elim a [
  | inl e ↦ Contains-take n t k (moves p (take n t) e.1 k h)
  | inr f ↦ Contains-take f.0 t k (moves p (take f.0 t) f.3 k h)
]

pub covers_pushed : (t : List ℤ) (l : ℤ) (n : ℕ) (floors : List ℕ) → n ≤ length t → AreFloors floors (length t)
    → Covers (IsPoint (t ++ l ∷ []) n floors) (IsPoint t n floors)
covers_pushed t l n floors le a s' p' at = elim at [
  | inl e ↦ (
    t,
    take n t,
    inl (refl, refl),
    λ k h. moves (t ++ l ∷ []) s' (sym e.0) k (Contains-append_left t (l ∷ []) k h),
    λ k h. moves p' (take n t) (e.1 ∙ take-append-le n t (l ∷ []) le) k h,
  )
  | inr f ↦
      let same : take f.0 (t ++ l ∷ []) ≡ take f.0 t = take-append-le f.0 t (l ∷ []) (floor_le floors (length t) a f.0 f.1) in (
        take f.0 t,
        take f.0 t,
        inr (f.0, f.1, refl, refl),
        λ k h. moves (take f.0 t) s' (sym (f.2 ∙ same)) k h,
        λ k h. moves p' (take f.0 t) (f.3 ∙ same) k h,
      )
]

pub covers_opened : (t : List ℤ) (n : ℕ) (floors : List ℕ) → n ≡ length t → Covers (IsPoint t n (length t ∷ floors)) (IsPoint t n floors)
covers_opened t n floors e s' p' at = elim at [
  | inl f ↦ (t, take n t, inl (refl, refl), λ k h. moves t s' (sym f.0) k h, λ k h. moves p' (take n t) f.1 k h)
  | inr f ↦ elim (Contains-cons_cases (length t) floors f.0 f.1) [
    | inl m ↦
        let all : take f.0 t ≡ t = ap (λ z. take z t) (sym m) ∙ take-length t in
        let done : take n t ≡ t = ap (λ z. take z t) e ∙ take-length t in
        (t, take n t, inl (refl, refl), λ k h. moves t s' (sym (f.2 ∙ all)) k h, λ k h. moves p' (take n t) (f.3 ∙ all ∙ sym done) k h)
    | inr i ↦ (
      take f.0 t,
      take f.0 t,
      inr (f.0, i, refl, refl),
      λ k h. moves (take f.0 t) s' (sym f.2) k h,
      λ k h. moves p' (take f.0 t) f.3 k h,
    )
  ]
]

take_take : (t : List ℤ) (a m : ℕ) → a ≤ m → m ≤ length t → take a (take m t) ≡ take a t
take_take t a m le lt =
    let len : a ≤ length (take m t) = omega (arith, length-take m t) in
    sym (take-append-le a (take m t) (drop m t) len) ∙ ap (λ z. take a z) (take-append-drop m t)

pub covers_taken_back : (t : List ℤ) (n m : ℕ) (floors : List ℕ) → m ≤ length t → AreFloors floors m
    → Covers (IsPoint (take m t) m floors) (IsPoint t n (m ∷ floors))
covers_taken_back t n m floors le a s' p' at = elim at [
  | inl e ↦ (
    take m t,
    take m t,
    inr (m, Contains-first m floors, refl, refl),
    λ k h. moves (take m t) s' (sym e.0) k h,
    λ k h. moves p' (take m t) (e.1 ∙ take_take t m m (omega arith) le) k h,
  )
  | inr f ↦
      let same : take f.0 (take m t) ≡ take f.0 t = take_take t f.0 m (floor_le floors m a f.0 f.1) le in (
        take f.0 t,
        take f.0 t,
        inr (f.0, later f.0 f.1, refl, refl),
        λ k h. moves (take f.0 t) s' (sym (f.2 ∙ same)) k h,
        λ k h. moves p' (take f.0 t) (f.3 ∙ same) k h,
      )
]
  where
    later : (x : ℕ) → Contains floors x → Contains (m ∷ floors) x
    later x h = Contains-later m floors x h
