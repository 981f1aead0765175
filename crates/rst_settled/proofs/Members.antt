-- Places of lists, and signals that aren't there.
use Rattle.std.proofs.Common.{◌≡◌, ◌∙◌, ℕ, zero, suc, ◌^◌, ◌<◌, ◌≤◌, Bool, true, false, ◌||◌, List, [], ◌∷◌, length, Some, arith, refl, sym, ap}
use Rattle.std.specs.List.{Contains, slice_get, list_any}
use Rattle.std.proofs.lemmas.Option.{slice_get_within, slice_get_past, slice_get_read, get_or_from_slice_get}
use Rattle.std.proofs.lemmas.List.Folds.{list_any_at}
use Rattle.rst_net.specs.Units.{PlainSignal}
use Rattle.rst_cycle.specs.Bits.{has_bit}
use Rattle.rst_cycle.specs.Signals.{width_in, width_of}
use Rattle.rst_settled.proofs.Bits.{bit_past}

-- a place of a list where a test says yes
pub record Found (X : Type 0) (test : X → Bool) (xs : List X) : Type 0 where
  pub place : ℕ
  pub item : X
  pub at : slice_get xs place ≡ Some item
  pub holds : test item ≡ true

found_first : {X : Type 0} (test : X → Bool) (x : X) (xs : List X) (b : Bool) → test x ≡ b → (list_any test xs ≡ true → Found X test xs)
    → (b || list_any test xs) ≡ true → Found X test (x ∷ xs)
found_first test x xs true e rest h = record { place = 0; item = x; at = refl; holds = e }
found_first test x xs false e rest h = let later = rest h in record { place = suc later.place; item = later.item; at = later.at; holds = later.holds }

pub found : {X : Type 0} (test : X → Bool) (xs : List X) → list_any test xs ≡ true → Found X test xs
found test [] h = absurd cc
found test (x ∷ xs) h = found_first test x xs (test x) refl (found test xs) h

pub contains_at : {X : Type 0} (xs : List X) (k : ℕ) (x : X) → slice_get xs k ≡ Some x → Contains xs x
contains_at xs k x h = (k, slice_get_within xs k x h, get_or_from_slice_get xs k x x h)

pub at_of : {X : Type 0} (xs : List X) (x : X) (within : Contains xs x) → slice_get xs within.0 ≡ Some x
at_of xs x within = slice_get_read xs (length xs) within.0 x refl within.1 (sym within.2)

pub any_at : {X : Type 0} (test : X → Bool) (xs : List X) (k : ℕ) (x : X) → slice_get xs k ≡ Some x → test x ≡ true → list_any test xs ≡ true
any_at test xs k x at h = list_any_at test xs k x (slice_get_within xs k x at) (ap test (get_or_from_slice_get xs k x x at) ∙ h)

pub element : {X : Type 0} (xs : List X) (k : ℕ) → k < length xs → (x : X) × (slice_get xs k ≡ Some x)
element [] k h = absurd (omega arith)
element (x ∷ xs) zero h = (x, refl)
element (x ∷ xs) (suc k) h = element xs k (omega arith)

-- a number without a signal has no bit
pub no_width : (signals : List PlainSignal) (i : ℕ) → length signals ≤ i → width_of signals i ≡ 0
no_width signals i h = ap width_in (slice_get_past signals i h)

pub no_bit : (n w p : ℕ) → n < 2 ^ w → w ≡ 0 → has_bit n p ≡ false
no_bit n w p h e = bit_past n w p h (omega arith)
