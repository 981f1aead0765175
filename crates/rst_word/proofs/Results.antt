-- What an operator gives of words is a word.
use Rattle.std.proofs.Common.{◌≡◌, ℕ, ◌+◌, ◌-◌, ◌*◌, ◌/◌, ◌%◌, ◌^◌, ◌<◌, ◌≤◌, Bool, true, false, cond, arith, sym, subst, ℤ, pos, inl, inr}
use Rattle.std.proofs.lemmas.Nat.{pow_pos, xor_lt, or_lt}
use Rattle.std.proofs.lemmas.Int.{ints}
use Rattle.std.proofs.lemmas.Bool.Decides.{leb_tells}
use Rattle.std.proofs.Math.Nat.{mod-lt}
use Rattle.std.specs.Int.{int_rem_euclid}
use Rattle.std.specs.Int.Bits.{and_lt}
use Rattle.std.specs.Prelude.{unsigned_abs}
use Rattle.rst_word.specs.declared.ops.UnaryOp.{UnaryOp}
use Rattle.rst_word.specs.declared.ops.UnaryOp.TheVariants as unary
use Rattle.rst_word.specs.declared.ops.BinaryOp.{BinaryOp}
use Rattle.rst_word.specs.declared.ops.BinaryOp.TheVariants as binary
use Rattle.rst_word.specs.Words.{PlainWord, IsWord, bit_word, modulo, filled, extended, joined}
use Rattle.rst_word.specs.Unary.{unary_word}
use Rattle.rst_word.specs.Binary.{binary_word, both_signed, sized_word, moved_up, moved_down, HasWidths}
use Rattle.rst_word.proofs.Powers.{filled_fits, joined_fits, moved_down_fits, moved_away}

pub bit_is_word : (test : Bool) → IsWord (bit_word test)
bit_is_word true = record { some_bits = omega arith; at_most_64 = omega arith; fits = omega arith }
bit_is_word false = record { some_bits = omega arith; at_most_64 = omega arith; fits = omega arith }

-- another number of the same width
with_number : (a : PlainWord) (signed : Bool) (value : ℕ) → IsWord a → value < 2 ^ a.width → IsWord (record { width = a.width; signed = signed; value = value })
with_number a signed value h fits = record { some_bits = h.some_bits; at_most_64 = h.at_most_64; fits = fits }

cut_fits : (width value : ℕ) → value % 2 ^ width < 2 ^ width
cut_fits width value = mod-lt value (pow_pos width)

turned_fits : (width value : ℕ) → 2 ^ width - 1 - value < 2 ^ width
turned_fits width value = omega (arith, pow_pos width)

remainder_fits : (z : ℤ) (n : ℕ) → 0 < n → unsigned_abs (int_rem_euclid z (pos n)) < n
remainder_fits z n h = grind (arith, ints)

modulo_fits : (width : ℕ) (z : ℤ) → modulo width z < 2 ^ width
modulo_fits width z = remainder_fits z (2 ^ width) (pow_pos width)

down_fits : (fill : Bool) (value places width : ℕ) → value < 2 ^ width → value / 2 ^ places + filled fill (width - places) width < 2 ^ width
down_fits fill value places width h =
    elim (leb_tells width places) [
      | inl t ↦
          let none = moved_away value places width t.1 h in
          let all : width - places ≡ 0 = omega arith in
          rw (none, all) (filled_fits fill 0 0 width (omega arith) (omega arith))
      | inr t ↦ moved_down_fits fill value places width (omega arith) h
    ]

pub unary_is_word : (op : UnaryOp) (a : PlainWord) → IsWord a → IsWord (unary_word op a)
unary_is_word unary.Plus a h = h
unary_is_word unary.Minus a h = with_number a a.signed _ h (cut_fits a.width (2 ^ a.width - a.value))
unary_is_word unary.Invert a h = with_number a a.signed _ h (turned_fits a.width a.value)
unary_is_word unary.Not a h = bit_is_word _
unary_is_word unary.And a h = bit_is_word _
unary_is_word unary.Nand a h = bit_is_word _
unary_is_word unary.Or a h = bit_is_word _
unary_is_word unary.Nor a h = bit_is_word _
unary_is_word unary.Xor a h = bit_is_word _
unary_is_word unary.Xnor a h = bit_is_word _

same_width : (a b : PlainWord) → a.width ≡ b.width → IsWord b → b.value < 2 ^ a.width
same_width a b e k = subst (λ (w : ℕ). b.value < 2 ^ w) (sym e) k.fits

pub binary_is_word : (op : BinaryOp) (a b : PlainWord) → IsWord a → IsWord b → HasWidths op a b → IsWord (binary_word op a b)
binary_is_word binary.Mul a b h k e = with_number a (both_signed a b) _ h (cut_fits a.width (a.value * b.value))
binary_is_word binary.Div a b h k e = with_number a (both_signed a b) _ h (modulo_fits a.width _)
binary_is_word binary.Rem a b h k e = with_number a (both_signed a b) _ h (modulo_fits a.width _)
binary_is_word binary.Add a b h k e = with_number a (both_signed a b) _ h (cut_fits a.width (a.value + b.value))
binary_is_word binary.Sub a b h k e = with_number a (both_signed a b) _ h (cut_fits a.width (a.value + (2 ^ a.width - b.value)))
binary_is_word binary.Shl a b h k e = with_number a a.signed _ h (cut_fits a.width (a.value * 2 ^ b.value))
binary_is_word binary.Shr a b h k e = with_number a a.signed _ h (down_fits false a.value b.value a.width h.fits)
binary_is_word binary.ArithShl a b h k e = with_number a a.signed _ h (cut_fits a.width (a.value * 2 ^ b.value))
binary_is_word binary.ArithShr a b h k e = with_number a a.signed _ h (down_fits _ a.value b.value a.width h.fits)
binary_is_word binary.Lt a b h k e = bit_is_word _
binary_is_word binary.Le a b h k e = bit_is_word _
binary_is_word binary.Gt a b h k e = bit_is_word _
binary_is_word binary.Ge a b h k e = bit_is_word _
binary_is_word binary.Eq a b h k e = bit_is_word _
binary_is_word binary.Ne a b h k e = bit_is_word _
binary_is_word binary.And a b h k e = with_number a (both_signed a b) _ h (and_lt a.width a.value b.value h.fits (same_width a b e k))
binary_is_word binary.Xor a b h k e = with_number a (both_signed a b) _ h (xor_lt a.width a.value b.value h.fits (same_width a b e k))
binary_is_word binary.Xnor a b h k e = with_number a (both_signed a b) _ h (turned_fits a.width _)
binary_is_word binary.Or a b h k e = with_number a (both_signed a b) _ h (or_lt a.width a.value b.value h.fits (same_width a b e k))
binary_is_word binary.LogicAnd a b h k e = bit_is_word _
binary_is_word binary.LogicOr a b h k e = bit_is_word _

pub joined_is_word : (a b : PlainWord) → IsWord a → IsWord b → a.width + b.width ≤ 64 → IsWord (joined a b)
joined_is_word a b h k small = record {
  some_bits = omega (arith, h.some_bits);
  at_most_64 = small;
  fits = joined_fits a.value b.value a.width b.width h.fits k.fits;
}

pub extended_is_word : (width : ℕ) (signed : Bool) (a : PlainWord) → IsWord a → a.width ≤ width → width ≤ 64 → IsWord (extended width signed a)
extended_is_word width signed a h wide small = record {
  some_bits = omega (arith, h.some_bits);
  at_most_64 = small;
  fits = filled_fits _ a.value a.width width h.fits wide;
}
