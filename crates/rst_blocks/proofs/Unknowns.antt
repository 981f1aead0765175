-- Words of the rows under other tests that say the same, and signals that are put into a set.
use Rattle.std.proofs.Common.{◌≡◌, ◌∙◌, refl, sym, ap, subst, ℕ, suc, ◌+◌, ◌<◌, nat_eq, Bool, true, false, cond, not, ◌&&◌, ◌||◌, inl, inr, List, [], ◌∷◌, length, get_or, take, drop, Option, Some, add-one, drop-cons}
use Rattle.std.specs.List.{list_any}
use Rattle.std.proofs.Math.Seq.{take-suc}
use Rattle.std.proofs.lemmas.Bool.Decides.{eqb_tells}
use Rattle.std.proofs.lemmas.List.Folds.{list_any-append}
use Rattle.rst_net.specs.declared.signal.Slice.{Slice}
use Rattle.rst_net.specs.Statements.{Statement}
use Rattle.rst_cycle.specs.Drivers.{target_has, sets}
use Rattle.rst_blocks.specs.Surely.{surely, early}
use Rattle.rst_blocks.specs.Blocks.{first_unknown, names, is_held}

-- what is first unknown rests on which signals are known alone
pub first_unknown-same : (f g : ℕ → Bool) → ((i : ℕ) → f i ≡ g i) → (slices : List Slice) → first_unknown f slices ≡ first_unknown g slices
first_unknown-same f g same [] = refl
first_unknown-same f g same (slice ∷ slices) =
    ap (λ (b : Bool). cond b (first_unknown f slices) (Some slice.signal)) (same slice.signal)
    ∙ ap (λ (o : Option ℕ). cond (g slice.signal) o (Some slice.signal)) (first_unknown-same f g same slices)

-- a known signal is passed over
pub first_unknown-passed : (f : ℕ → Bool) (xs : List Slice) (k : ℕ) (d : Slice) → k < length xs → f (get_or xs k d).signal ≡ true → first_unknown f (drop (k + 1) xs) ≡ first_unknown f (drop k xs)
first_unknown-passed f xs k d within known =
    ap (λ (n : ℕ). first_unknown f (drop n xs)) (add-one k)
    ∙ sym (ap (λ (ys : List Slice). first_unknown f ys) (drop-cons xs k d within) ∙ ap (λ (b : Bool). cond b (first_unknown f (drop (suc k) xs)) (Some (get_or xs k d).signal)) known)

pub right_false : (a b : Bool) → (a || b) ≡ false → b ≡ false
right_false true b e = absurd cc
right_false false b e = e

left_false : (a b : Bool) → (a || b) ≡ false → a ≡ false
left_false true b e = absurd cc
left_false false b e = refl

-- a signal that no slice names has no bit in one
pub names-none : (slices : List Slice) (i place : ℕ) → names slices i ≡ false → target_has slices i place ≡ false
names-none [] i place e = refl
names-none (slice ∷ slices) i place e =
    both (nat_eq i slice.signal) _ (target_has slices i place) (left_false (nat_eq i slice.signal) (names slices i) e) (names-none slices i place (right_false (nat_eq i slice.signal) (names slices i) e))
  where
    both : (a b c : Bool) → a ≡ false → c ≡ false → ((a && b) || c) ≡ false
    both true b c p q = absurd cc
    both false b c p q = q

pub unset-unheld : (body : Statement) (i place : ℕ) → sets body i place ≡ false → is_held body i place ≡ false
unset-unheld body i place e = ap (λ (b : Bool). b && (not (surely i place body false) || early i place body false)) e

-- ---- one more is put

abbrev pub among : {X : Type 0} → (X → ℕ) → List X → ℕ → Bool
among key xs i = list_any (λ x. nat_eq i (key x)) xs

new : (s a n : Bool) → n ≡ true → true ≡ (s || (a || (n || false)))
new true a n e = refl
new false true n e = refl
new false false n e = sym (ap (λ (b : Bool). b || false) e)

old : (s a n : Bool) → n ≡ false → (s || a) ≡ (s || (a || (n || false)))
old true a n e = refl
old false true n e = refl
old false false n e = sym (ap (λ (b : Bool). b || false) e)

pub added : {X : Type 0} (key : X → ℕ) (start before after : ℕ → Bool) (xs : List X) (k : ℕ) (d : X) → k < length xs
    → ((i : ℕ) → before i ≡ (start i || among key (take k xs) i)) → after (key (get_or xs k d)) ≡ true → ((i : ℕ) → (i ≡ key (get_or xs k d) → ⊥) → after i ≡ before i)
    → (i : ℕ) → after i ≡ (start i || among key (take (k + 1) xs) i)
added {X} key start before after xs k d within had member others i =
    let x = get_or xs k d in
    let more : among key (take (k + 1) xs) i ≡ (among key (take k xs) i || (nat_eq i (key x) || false)) =
    ap (λ (n : ℕ). among key (take n xs) i) (add-one k) ∙ ap (λ (ys : List X). among key ys i) (take-suc xs k d within) ∙ list_any-append (λ (y : X). nat_eq i (key y)) (take k xs) (x ∷ []) in
    let whole = ap (λ (b : Bool). start i || b) more in
    elim (eqb_tells i (key x)) [
      | inl here ↦ subst (λ (j : ℕ). after j ≡ true) (sym here.1) member ∙ new (start i) (among key (take k xs) i) (nat_eq i (key x)) here.0 ∙ sym whole
      | inr apart ↦ others i apart.1 ∙ had i ∙ old (start i) (among key (take k xs) i) (nat_eq i (key x)) apart.0 ∙ sym whole
    ]
