-- Numbers, digit by digit and bit by bit.
use Rattle.std.proofs.Common.{◌≡◌, ℕ, zero, suc, ◌+◌, ◌*◌, ◌/◌, ◌%◌, ◌^◌, ◌<◌, ◌≤◌, Bool, true, false, cond, Some, None, nat_lt, nat_eq, leb, List, [], ◌∷◌, length, get_or, drop, refl, sym, ap, ◌∙◌, add-one, ne_eqb, inl, inr, arith}
use Rattle.std.proofs.lemmas.Bool.{le-leb, lt-leb}
use Rattle.std.proofs.lemmas.Bool.Decides.{leb_tells}
use Rattle.std.proofs.lemmas.Nat.{pow_pos}
use Rattle.std.proofs.Math.Nat.{div-eq_of_lt, mul-le-mul_left, div-lt_iff_lt-mul}
use Rattle.std.proofs.Math.Pow.{pow_mono}
use Rattle.std.proofs.Math.Seq.{drop-cons}
use Rattle.rst_script.specs.Numbers.{digit_value, number_behind, at_most}

-- one digit more
pub digit_here : (radix before : ℕ) (digits : List ℕ) (i : ℕ) → i < length digits
    → number_behind radix before (drop i digits)
    ≡ cond (nat_lt (digit_value (get_or digits i 0)) radix) (number_behind radix (before * radix + digit_value (get_or digits i 0)) (drop (i + 1) digits)) None
digit_here radix before digits i h = rw (add-one, drop-cons digits i 0 h) refl

-- a number that is too large stays so
pub too_large : (radix before most : ℕ) (digits : List ℕ) → 1 ≤ radix → most < before → at_most most (number_behind radix before digits) ≡ None
too_large radix before most [] r h = ap (λ b. cond b (Some before) None) (lt-leb before most h)
too_large radix before most (b ∷ bs) r h = by_digit (nat_lt (digit_value b) radix) (too_large radix (before * radix + digit_value b) most bs r more) where
  grown : before * 1 ≤ before * radix
  grown = mul-le-mul_left before r

  more : most < before * radix + digit_value b
  more = omega (arith, grown, h)

  by_digit : (x : Bool) → at_most most (number_behind radix (before * radix + digit_value b) bs) ≡ None
      → at_most most (cond x (number_behind radix (before * radix + digit_value b) bs) None) ≡ None
  by_digit true e = e
  by_digit false e = refl

-- with a digit that is one, the number is too large
pub passes : (radix before most : ℕ) (digits : List ℕ) (i : ℕ) → i < length digits → 1 ≤ radix → most < before * radix + digit_value (get_or digits i 0)
    → at_most most (number_behind radix before (drop i digits)) ≡ None
passes radix before most digits i h r large =
    let d = digit_value (get_or digits i 0) in
    ap (at_most most) (digit_here radix before digits i h)
    ∙ by_digit (nat_lt d radix) (too_large radix (before * radix + d) most (drop (i + 1) digits) r large) where
      by_digit : (x : Bool) → at_most most (number_behind radix (before * radix + digit_value (get_or digits i 0)) (drop (i + 1) digits)) ≡ None
          → at_most most (cond x (number_behind radix (before * radix + digit_value (get_or digits i 0)) (drop (i + 1) digits)) None) ≡ None
      by_digit true e = e
      by_digit false e = refl

-- no digit is left
pub all_read : (radix before most : ℕ) (digits : List ℕ) (i : ℕ) → length digits ≤ i → before ≤ most → at_most most (number_behind radix before (drop i digits)) ≡ Some before
all_read radix before most digits i h few =
    ap (λ rest. at_most most (number_behind radix before rest)) (none_left digits i h) ∙ ap (λ b. cond b (Some before) None) (le-leb before most few) where
      none_left : (digits : List ℕ) (i : ℕ) → length digits ≤ i → drop i digits ≡ []
      none_left [] zero h = refl
      none_left [] (suc i) h = refl
      none_left (b ∷ bs) zero h = absurd (omega (arith, h))
      none_left (b ∷ bs) (suc i) h = none_left bs i (omega (arith, h))

pub wide : (value width : ℕ) → value < 2 ^ 64 → 64 ≤ width → leb 64 width ≡ nat_lt value (2 ^ width)
wide value width h w =
    let grown : 2 ^ 64 ≤ 2 ^ width = pow_mono w in
    let large : suc value ≤ 2 ^ width = omega (arith, grown, h) in
    le-leb 64 width w ∙ sym (le-leb (suc value) (2 ^ width) large)

no_high_bit : (value width : ℕ) → value < 2 ^ 64 → 64 ≤ width → value / 2 ^ width ≡ 0
no_high_bit value width h w =
    let grown : 2 ^ 64 ≤ 2 ^ width = pow_mono w in
    let large : value < 2 ^ width = omega (arith, grown, h) in
    div-eq_of_lt large

pub high_bit : (value width : ℕ) → value < 2 ^ 64 → 64 ≤ width → nat_lt width 64 ≡ nat_eq ((value / 2 ^ width) % 2) 1
high_bit value width h w = lt-leb (suc width) 64 (omega (arith, w)) ∙ ap (λ n. nat_eq (n % 2) 1) (sym (no_high_bit value width h w))

-- a number is below a power where nothing of it is left behind that many bits
pub narrow : (value width : ℕ) → nat_eq (value / 2 ^ width) 0 ≡ nat_lt value (2 ^ width)
narrow value width = elim (leb_tells (suc value) (2 ^ width)) [ inl under ↦ below under.0 under.1 | inr over ↦ above over.0 over.1 ] where
  below : leb (suc value) (2 ^ width) ≡ true → suc value ≤ 2 ^ width → nat_eq (value / 2 ^ width) 0 ≡ nat_lt value (2 ^ width)
  below e h = ap (λ n. nat_eq n 0) (div-eq_of_lt h) ∙ sym e

  above : leb (suc value) (2 ^ width) ≡ false → 2 ^ width < suc value → nat_eq (value / 2 ^ width) 0 ≡ nat_lt value (2 ^ width)
  above e h = ne_eqb _ 0 (λ none. not_below none) ∙ sym e where
    not_below : value / 2 ^ width ≡ 0 → ⊥
    not_below none =
        let less : value / 2 ^ width < 1 = omega (arith, none) in
        let under : value < 1 * 2 ^ width = (div-lt_iff_lt-mul (pow_pos width)).0 less in
        omega (arith, under, h)
