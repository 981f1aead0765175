-- Tests and counts.
use Rattle.std.proofs.Common.{◌≡◌, ◌∙◌, inl, inr, ℕ, ◌+◌, Bool, true, false, not, ◌&&◌, ◌||◌, cond, nat_eq, nat_lt, List, [], ◌∷◌, ◌++◌, refl, sym, ap, arith}
use Rattle.std.specs.Prelude.{count_by}
use Rattle.std.specs.List.{list_any}
use Rattle.std.proofs.lemmas.Bool.{lt-ltb, le-ltb, eq-eqb, ne_eqb, cases_lt}
use Rattle.std.proofs.lemmas.List.Sums.{sum_by-append}
use Rattle.std.proofs.lemmas.List.Folds.{list_any-append}

pub or_assoc : (a b c : Bool) → ((a || b) || c) ≡ (a || (b || c))
or_assoc true b c = refl
or_assoc false b c = refl

pub or_false : (a : Bool) → a ≡ (a || false)
or_false true = refl
or_false false = refl

pub or_true : (a : Bool) → true ≡ (a || true)
or_true true = refl
or_true false = refl

pub and_false : (a : Bool) → false ≡ (a && false)
and_false true = refl
and_false false = refl

pub or_and_false : (a b : Bool) → a ≡ (a || (b && false))
or_and_false a b = or_false a ∙ ap (λ t. a || t) (and_false b)

-- ---- a count that may grow by one

plus_none : (n : ℕ) → n ≡ n + 0
plus_none n = omega arith

pub one_more : (n : ℕ) (h : Bool) → (nat_lt 0 n || h) ≡ nat_lt 0 (n + cond h 1 0)
one_more n true = sym (or_true (nat_lt 0 n)) ∙ sym (lt-ltb 0 (n + 1) (omega arith))
one_more n false = sym (or_false (nat_lt 0 n)) ∙ ap (λ m. nat_lt 0 m) (plus_none n)

pub second : (n : ℕ) (h : Bool) → (nat_lt 1 n || (nat_lt 0 n && h)) ≡ nat_lt 1 (n + cond h 1 0)
second n true = elim (cases_lt 0 n) [
  | inl some ↦
      ap (λ t. nat_lt 1 n || (t && true)) (lt-ltb 0 n some) ∙ sym (or_true (nat_lt 1 n)) ∙ sym (lt-ltb 1 (n + 1) (omega arith))
  | inr none ↦
      ap (λ t. nat_lt 1 n || (t && true)) (le-ltb 0 n none) ∙ sym (or_false (nat_lt 1 n)) ∙ le-ltb 1 n (omega arith) ∙ sym (le-ltb 1 (n + 1) (omega arith))
]
second n false = sym (or_and_false (nat_lt 1 n) (nat_lt 0 n)) ∙ ap (λ m. nat_lt 1 m) (plus_none n)

pub count-push : {X : Type 0} (p : X → Bool) (xs : List X) (x : X) → count_by p (xs ++ x ∷ []) ≡ count_by p xs + cond (p x) 1 0
count-push p xs x = sum_by-append (λ y. cond (p y) 1 0) xs (x ∷ []) ∙ omega arith

pub any-push : {X : Type 0} (p : X → Bool) (xs : List X) (x : X) → list_any p (xs ++ x ∷ []) ≡ (list_any p xs || p x)
any-push p xs x = list_any-append p xs (x ∷ []) ∙ ap (λ t. list_any p xs || t) (sym (or_false (p x)))

either : (a b : ℕ) → (nat_lt 0 a || nat_lt 0 b) ≡ nat_lt 0 (a + b)
either a b = elim (cases_lt 0 a) [
  | inl some ↦ ap (λ t. t || nat_lt 0 b) (lt-ltb 0 a some) ∙ sym (lt-ltb 0 (a + b) (omega arith))
  | inr none ↦
      let same : b ≡ a + b = omega arith in
      ap (λ t. t || nat_lt 0 b) (le-ltb 0 a none) ∙ ap (λ m. nat_lt 0 m) same
]

pub not_some : (n : ℕ) → not (nat_lt 0 n) ≡ nat_eq n 0
not_some n = elim (cases_lt 0 n) [
  | inl some ↦ ap not (lt-ltb 0 n some) ∙ sym (ne_eqb n 0 (λ e. omega arith))
  | inr none ↦ ap not (le-ltb 0 n none) ∙ sym (eq-eqb n 0 (omega arith))
]

count-cons : {X : Type 0} (p : X → Bool) (x : X) (xs : List X) → count_by p (x ∷ xs) ≡ cond (p x) 1 0 + count_by p xs
count-cons p x xs = sum_by-append (λ y. cond (p y) 1 0) (x ∷ []) xs ∙ omega arith

some_here : (h : Bool) → h ≡ nat_lt 0 (cond h 1 0)
some_here true = refl
some_here false = refl

pub any-count : {X : Type 0} (p : X → Bool) (xs : List X) → list_any p xs ≡ nat_lt 0 (count_by p xs)
any-count p [] = refl
any-count p (x ∷ xs) =
    ap (λ t. t || list_any p xs) (some_here (p x)) ∙ ap (λ t. nat_lt 0 (cond (p x) 1 0) || t) (any-count p xs)
    ∙ either (cond (p x) 1 0) (count_by p xs) ∙ ap (λ n. nat_lt 0 n) (sym (count-cons p x xs))

-- one of two lists
pub any-counts : {X : Type 0} (p : X → Bool) (xs ys : List X) → (list_any p xs || list_any p ys) ≡ nat_lt 0 (count_by p xs + count_by p ys)
any-counts p xs ys =
    ap (λ t. t || list_any p ys) (any-count p xs) ∙ ap (λ t. nat_lt 0 (count_by p xs) || t) (any-count p ys) ∙ either (count_by p xs) (count_by p ys)
