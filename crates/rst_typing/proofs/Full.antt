-- Tests of all numbers below one.
use Rattle.std.proofs.Common.{◌≡◌, ℕ, ◌+◌, ◌<◌, zero, suc, Bool, true, false, ◌&&◌, refl, ap, ◌∙◌, add-one, arith, inl, inr}
use Rattle.std.proofs.lemmas.Bool.Decides.{leb_tells}
use Rattle.rst_typing.specs.Typing.{all_below}

pub all_below-none : (test : ℕ → Bool) → all_below 0 test ≡ true
unfolding all_below
all_below-none test = refl

both_true : (a b : Bool) → a ≡ true → b ≡ true → (a && b) ≡ true
both_true a b h k = rw h k

-- one number more
pub all_below-more : (n : ℕ) (test : ℕ → Bool) → all_below n test ≡ true → test n ≡ true → all_below (n + 1) test ≡ true
unfolding all_below
all_below-more n test h k = rw (add-one n) (both_true (all_below n test) (test n) h k)

none_after : (a b : Bool) → a ≡ false → (a && b) ≡ false
none_after a b h = rw h refl

last_fails : (a b : Bool) → b ≡ false → (a && b) ≡ false
last_fails true b h = h
last_fails false b h = refl

-- a number for which the test fails
pub all_below-fails : (n i : ℕ) (test : ℕ → Bool) → i < n → test i ≡ false → all_below n test ≡ false
unfolding all_below
all_below-fails zero i test h k = absurd (omega arith)
all_below-fails (suc n) i test h k =
    elim (leb_tells (suc i) n) [
      | inl t ↦ none_after (all_below n test) (test n) (all_below-fails n i test (omega arith) k)
      | inr t ↦ let same : n ≡ i = omega arith in last_fails (all_below n test) (test n) (ap test same ∙ k)
    ]
