-- Numbers made of bits.
use Rattle.std.proofs.Common.{◌≡◌, ◌∙◌, ℕ, zero, suc, ◌+◌, ◌-◌, ◌*◌, ◌/◌, ◌%◌, ◌^◌, ◌<◌, ◌≤◌, Bool, true, false, List, [], ◌∷◌, length, eqb, arith, refl, sym, ap, subst, inl, inr}
use Rattle.std.proofs.lemmas.Bool.{cases_lt}
use Rattle.std.proofs.lemmas.Nat.Bits.{bit_at_cat_low, bit_at_cat_high}
use Rattle.std.proofs.Math.Nat.{pow-suc}
use Rattle.rst_cycle.specs.Bits.{has_bit, digit, spelled, spelled_behind}

pub digit_small : (b : Bool) → digit b ≤ 1
digit_small true = omega arith
digit_small false = omega arith

-- ---- spelled numbers are as long as what spells them

doubled : (n d p q : ℕ) → d ≤ 1 → n < p → q ≡ p * 2 → 2 * n + d < q
doubled n d p q h k e = omega arith

behind_below : (bits : List Bool) (n w : ℕ) → n < 2 ^ w → spelled_behind n bits < 2 ^ (w + length bits)
behind_below [] n w h = let e : w + 0 ≡ w = omega arith in subst (λ k. n < 2 ^ k) (sym e) h
behind_below (bit ∷ bits) n w h =
    let e : suc w + length bits ≡ w + suc (length bits) = omega arith in
    subst (λ k. spelled_behind (2 * n + digit bit) bits < 2 ^ k) e
    (behind_below bits (2 * n + digit bit) (suc w) (doubled n (digit bit) (2 ^ w) (2 ^ suc w) (digit_small bit) h (pow-suc 2 w)))

pub spelled_below : (bits : List Bool) → spelled bits < 2 ^ length bits
spelled_below bits =
    let e : 0 + length bits ≡ length bits = omega arith in
    subst (λ k. spelled bits < 2 ^ k) e (behind_below bits 0 0 (omega arith))

-- ---- the number with these bits

abbrev pub made : ℕ → (ℕ → Bool) → ℕ
made zero f = 0
made (suc w) f = digit (f w) * 2 ^ w + made w f

made_step : (d m p q : ℕ) → d ≤ 1 → m < p → q ≡ p * 2 → d * p + m < q
made_step zero m p q h k e = omega arith
made_step (suc zero) m p q h k e = omega arith
made_step (suc (suc d)) m p q h k e = absurd (omega arith)

pub made_below : (w : ℕ) (f : ℕ → Bool) → made w f < 2 ^ w
made_below zero f = omega arith
made_below (suc w) f = made_step (digit (f w)) (made w f) (2 ^ w) (2 ^ suc w) (digit_small (f w)) (made_below w f) (pow-suc 2 w)

digit_place : (b : Bool) → eqb (digit b / 2 ^ 0 % 2) 1 ≡ b
digit_place true = refl
digit_place false = refl

pub made_bit : (w : ℕ) (f : ℕ → Bool) (p : ℕ) → p < w → has_bit (made w f) p ≡ f p
made_bit zero f p h = absurd (omega arith)
made_bit (suc w) f p h =
    elim (cases_lt p w) [
      | inl l ↦ ap (λ m. eqb m 1) (bit_at_cat_low (digit (f w)) w (made w f) p l) ∙ made_bit w f p l
      | inr l ↦
          let same : p ≡ w = omega arith in
          let nothing : w - w ≡ 0 = omega arith in
          subst (λ k. has_bit (made (suc w) f) k ≡ f k) (sym same)
          (ap (λ m. eqb m 1) (bit_at_cat_high (digit (f w)) w (made w f) w (made_below w f) (omega arith))
          ∙ (ap (λ k. has_bit (digit (f w)) k) nothing ∙ digit_place (f w)))
    ]
