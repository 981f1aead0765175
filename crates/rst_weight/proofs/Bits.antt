-- Counting bits: those of a slice that the slices behind it don't have, and theirs.
use Rattle.std.proofs.Common.{◌≡◌, ◌∙◌, refl, sym, ap, subst, ℕ, zero, suc, ◌+◌, ◌<◌, ◌≤◌, eqb, ltb, nat_lt, Bool, true, false, not, cond, ◌&&◌, ◌||◌, List, [], ◌∷◌, length, drop, add-one, arith}
use Rattle.std.proofs.lemmas.List.{at_drop_all}
use Rattle.std.proofs.lemmas.Bool.Decides.{nat_tests}
use Rattle.rst_net.specs.declared.signal.Slice.{Slice}
use Rattle.rst_cycle.specs.Bits.{digit}
use Rattle.rst_cycle.specs.Drivers.{slice_has, target_has}
use Rattle.rst_weight.specs.Counts.{places_below, bits_among}
use Rattle.rst_weight.specs.Plain.{fresh, first_fresh}

pub places-same : (f g : ℕ → Bool) → ((p : ℕ) → f p ≡ g p) → (n : ℕ) → places_below f n ≡ places_below g n
unfolding places_below
places-same f g same zero = refl
places-same f g same (suc p) = ap (λ (b : Bool). digit b + places_below f p) (same p) ∙ ap (λ (m : ℕ). digit (g p) + m) (places-same f g same p)

pub bits-same : (f g : ℕ → ℕ → Bool) → ((i p : ℕ) → f i p ≡ g i p) → (n : ℕ) → bits_among f n ≡ bits_among g n
unfolding bits_among
bits-same f g same zero = refl
bits-same f g same (suc i) = ap (λ (m : ℕ). m + bits_among f i) (places-same (f i) (g i) (same i) 64) ∙ ap (λ (m : ℕ). places_below (g i) 64 + m) (bits-same f g same i)

none_below : (n : ℕ) → places_below (λ _. false) n ≡ 0
unfolding places_below
none_below zero = refl
none_below (suc p) = let a = none_below p in omega arith

pub bits-none : (n : ℕ) → bits_among (target_has []) n ≡ 0
unfolding bits_among
bits-none zero = refl
bits-none (suc i) = let a = none_below 64 in let b = bits-none i in omega arith

-- one place more
pub places-zero : (f : ℕ → Bool) → 0 ≡ places_below f 0
unfolding places_below
places-zero f = refl

places-suc : (f : ℕ → Bool) (p : ℕ) → places_below f (p + 1) ≡ digit (f p) + places_below f p
unfolding places_below
places-suc f p = ap (λ n. places_below f n) (add-one p)

pub places-true : (f : ℕ → Bool) (p n m : ℕ) → n ≡ places_below f p → f p ≡ true → m ≡ n + 1 → m ≡ places_below f (p + 1)
places-true f p n m e t h = let a = places-suc f p in let b : digit (f p) ≡ 1 = ap digit t in omega arith

pub places-false : (f : ℕ → Bool) (p n m : ℕ) → n ≡ places_below f p → f p ≡ false → m ≡ n → m ≡ places_below f (p + 1)
places-false f p n m e t h = let a = places-suc f p in let b : digit (f p) ≡ 0 = ap digit t in omega arith

-- at one place
one : (a b : Bool) → digit (a || b) ≡ digit (a && not b) + digit b
one true true = refl
one true false = refl
one false true = refl
one false false = refl

-- both tests, and the first alone
either : (f g : ℕ → Bool) (n : ℕ) → places_below (λ p. f p || g p) n ≡ places_below (λ p. f p && not (g p)) n + places_below g n
unfolding places_below
either f g zero = refl
either f g (suc p) = let a = one (f p) (g p) in let b = either f g p in omega arith

never : (f g : ℕ → Bool) → ((p : ℕ) → f p ≡ false) → (n : ℕ) → places_below (λ p. f p || g p) n ≡ places_below g n
never f g none n = places-same (λ p. f p || g p) g (λ p. ap (λ (b : Bool). b || g p) (none p)) n

-- a slice of another signal has none of these bits
other : (i p : ℕ) (slice : Slice) → eqb i slice.signal ≡ false → slice_has i p slice ≡ false
other i p slice e = ap (λ (b : Bool). b && (not (nat_lt p slice.low) && nat_lt p (slice.low + slice.width))) e

same_signal : (slice : Slice) (others : List Slice) (i : ℕ) → slice.signal ≡ i
    → places_below (λ p. slice_has i p slice || target_has others i p) 64 ≡ fresh slice others + places_below (target_has others i) 64
same_signal slice others i e =
    subst (λ j. places_below (λ p. slice_has j p slice || target_has others j p) 64 ≡ fresh slice others + places_below (target_has others j) 64) e
    (either (λ p. slice_has slice.signal p slice) (target_has others slice.signal) 64)

other_signal : (slice : Slice) (others : List Slice) (i : ℕ) → eqb i slice.signal ≡ false
    → places_below (λ p. slice_has i p slice || target_has others i p) 64 ≡ places_below (target_has others i) 64
other_signal slice others i e = never (λ p. slice_has i p slice) (target_has others i) (λ p. other i p slice e) 64

step : (s i x y f r t : ℕ) → (s ≡ i → x ≡ f + y) → (eqb i s ≡ false → x ≡ y) → t ≡ cond (ltb s i) f 0 + r → x + t ≡ cond (ltb s (suc i)) f 0 + (y + r)
step s i x y f r t here there before = grind (arith, nat_tests)

nothing : (s f : ℕ) → 0 ≡ cond (ltb s 0) f 0 + 0
nothing s f = grind (arith, nat_tests)

-- one slice more
pub bits-more : (slice : Slice) (others : List Slice) (n : ℕ) → bits_among (target_has (slice ∷ others)) n ≡ cond (ltb slice.signal n) (fresh slice others) 0 + bits_among (target_has others) n
unfolding bits_among
bits-more slice others zero = nothing slice.signal (fresh slice others)
bits-more slice others (suc i) =
    step slice.signal i (places_below (λ p. slice_has i p slice || target_has others i p) 64) (places_below (target_has others i) 64) (fresh slice others) (bits_among (target_has others) i)
    (bits_among (target_has (slice ∷ others)) i) (same_signal slice others i) (other_signal slice others i) (bits-more slice others i)

-- the slices from a place on
turn : (xs : List Slice) (k n : ℕ) → k < length xs → bits_among (target_has (drop k xs)) n ≡ first_fresh (drop k xs) n + bits_among (target_has (drop (suc k) xs)) n
turn [] k n within = absurd (omega arith)
turn (x ∷ xs) zero n within = bits-more x xs n
turn (x ∷ xs) (suc k) n within = turn xs k n (omega arith)

pub bits_turn : (xs : List Slice) (k n : ℕ) → k < length xs → bits_among (target_has (drop k xs)) n ≡ first_fresh (drop k xs) n + bits_among (target_has (drop (k + 1) xs)) n
bits_turn xs k n within = turn xs k n within ∙ ap (λ m. first_fresh (drop k xs) n + bits_among (target_has (drop m xs)) n) (sym (add-one k))

pub bits_end : (xs : List Slice) (k n : ℕ) → length xs ≤ k → bits_among (target_has (drop k xs)) n ≡ 0
bits_end xs k n past = at_drop_all (λ (ys : List Slice). bits_among (target_has ys) n) xs k past ∙ bits-none n
