-- Labels match by arithmetic as they do bit by bit.
use Rattle.std.proofs.Common.{◌≡◌, ◌∙◌, ℕ, zero, suc, ◌+◌, ◌-◌, ◌%◌, ◌<◌, min, Bool, true, false, cond, ◌||◌, eqb, arith, refl, sym, ap, inl, inr}
use Rattle.std.specs.Int.{bit_at}
use Rattle.std.specs.Int.Bits.{bit_and, bit_xor, and_self, xor_add_and}
use Rattle.std.proofs.lemmas.Nat.{and_assoc, and_le_l}
use Rattle.std.proofs.lemmas.Nat.Bits.{bit_at_and, bit_at_xor, bit_at-lt}
use Rattle.std.proofs.lemmas.Bool.{or_left, or_right, cases_Bool}
use Rattle.rst_cycle.specs.Bits.{has_bit, same_bit}
use Rattle.rst_cycle.specs.Effects.{agree}

-- what is left of a number without its masked bits
left_of : (v m : ℕ) → v - bit_and v m ≡ bit_xor v (bit_and v m)
left_of v m =
    let again : bit_and v (bit_and v m) ≡ bit_and v m = sym (and_assoc m v v) ∙ ap (λ n. bit_and n m) (and_self v) in
    omega (arith, xor_add_and v (bit_and v m), again, and_le_l v m)

no_bit : (b c : ℕ) → b < 2 → c ≡ 0 → (b + min b c) % 2 ≡ b
no_bit b c h k = omega (arith, h, k)

-- bits that are not masked are left
left_bit : (v m p : ℕ) → bit_at m p ≡ 0 → bit_at (v - bit_and v m) p ≡ bit_at v p
left_bit v m p h =
    ap (λ n. bit_at n p) (left_of v m) ∙ (bit_at_xor v (bit_and v m) p ∙ (ap (λ n. (bit_at v p + n) % 2) (bit_at_and v m p) ∙ no_bit (bit_at v p) (bit_at m p) (bit_at-lt v p) h))

bit_zero : (b : ℕ) → b < 2 → eqb b 1 ≡ false → b ≡ 0
bit_zero zero h k = refl
bit_zero (suc zero) h k = absurd cc
bit_zero (suc (suc b)) h k = absurd (omega (arith, h))

same_self : (b : Bool) → same_bit b b ≡ true
same_self true = refl
same_self false = refl

place_agrees : (v m n p : ℕ) → v - bit_and v m ≡ n → (has_bit m p || same_bit (has_bit v p) (has_bit n p)) ≡ true
place_agrees v m n p is =
    elim (cases_Bool (has_bit m p)) [
      | inl t ↦ or_left (has_bit m p) (same_bit (has_bit v p) (has_bit n p)) t
      | inr t ↦
          let there : bit_at n p ≡ bit_at v p = ap (λ k. bit_at k p) (sym is) ∙ left_bit v m p (bit_zero (bit_at m p) (bit_at-lt m p) t) in
          or_right (has_bit m p) (same_bit (has_bit v p) (has_bit n p)) (ap (λ k. same_bit (has_bit v p) (eqb k 1)) there ∙ same_self (has_bit v p))
    ]

both : (a b : Bool) → a ≡ true → b ≡ true → cond a b false ≡ true
both true b h k = k
both false b h k = h

pub agrees : (w m v n : ℕ) → v - bit_and v m ≡ n → agree w m v n ≡ true
agrees zero m v n is = refl
agrees (suc w) m v n is = both (has_bit m w || same_bit (has_bit v w) (has_bit n w)) (agree w m v n) (place_agrees v m n w is) (agrees w m v n is)
