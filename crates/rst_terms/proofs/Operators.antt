-- The operators of words in two values: their bits spell what the operator gives.
use Rattle.std.proofs.Common.{◌≡◌, ℕ, zero, suc, ◌+◌, ◌-◌, ◌*◌, ◌%◌, ◌^◌, ◌<◌, ◌≤◌, Bool, true, false, not, ◌&&◌, ◌||◌, List, [], ◌∷◌, length, map, replicate, cond, arith, refl, sym, ap, ◌∙◌, subst}
use Rattle.std.specs.Prelude.{int_lt}
use Rattle.std.proofs.lemmas.Nat.{pow_pos, pow-add}
use Rattle.std.proofs.lemmas.List.{length-map, length-replicate, length-append}
use Rattle.rst_word.specs.declared.ops.UnaryOp.{UnaryOp}
use Rattle.rst_word.specs.declared.ops.UnaryOp.TheVariants as unary
use Rattle.rst_word.specs.declared.ops.BinaryOp.{BinaryOp}
use Rattle.rst_word.specs.declared.ops.BinaryOp.TheVariants as binary
use Rattle.rst_word.specs.Words.{PlainWord, bit_word, read_as, signed_value, filled, top_bit}
use Rattle.rst_word.specs.Words as word
use Rattle.rst_word.specs.Unary.{unary_word}
use Rattle.rst_word.specs.Binary.{binary_word, HasWidths}
use Rattle.rst_terms.specs.declared.kinds.Connective.TheVariants.{And, Or, Xor}
use Rattle.rst_terms.specs.declared.kinds.Direction.TheVariants.{Up, Down}
use Rattle.rst_terms.specs.Algebras.{bits}
use Rattle.rst_terms.specs.Recurrences.{each, reduced, summed, shifted}
use Rattle.rst_terms.specs.Operators.{unary_bits, binary_bits, is_division, extended, top, less}
use Rattle.rst_terms.specs.Numbers.{digit, number}
use Rattle.rst_terms.specs.Spelling.{Spells, spelled, HasSign}
use Rattle.rst_terms.proofs.Places.{number_append, number_repeated, inverted_is}
use Rattle.rst_terms.proofs.Sums.{summed_width, summed_modulo}
use Rattle.rst_terms.proofs.Differences.{difference_number, opposite_number}
use Rattle.rst_terms.proofs.Products.{product_number, product_width}
use Rattle.rst_terms.proofs.Connectives.{each_width, each_and, each_or, each_xor, each_xnor, all_number, any_number, odd_number, equal_number}
use Rattle.rst_terms.proofs.Comparisons.{below_unsigned, below_signed, not_under, top_is}
use Rattle.rst_terms.proofs.ShiftWidths.{shifted_width}
use Rattle.rst_terms.proofs.ShiftsUp.{shifted_up}
use Rattle.rst_terms.proofs.ShiftsDown.{filled_shift}

-- a word is spelled by bits that have its width and number
pub spelled_is : (xs : List Bool) (w : PlainWord) → Spells xs w → w ≡ spelled w.signed xs
spelled_is xs w h =
    let a = h.width in let b = h.value in
    λ i. record { width = sym a i; signed = w.signed; value = sym b i }

digit_alone : (b : Bool) → digit b + 2 * 0 ≡ cond b 1 0
digit_alone true = refl
digit_alone false = refl

bit_spells : (b c : Bool) → b ≡ c → Spells (b ∷ []) (bit_word c)
bit_spells b c h = record { width = refl; value = digit_alone b ∙ ap digit h }

-- operators with one operand
unary_spelled : (op : UnaryOp) (s : Bool) (xs : List Bool) → Spells (unary_bits bits op tt xs).1 (unary_word op (spelled s xs))
unary_spelled unary.Plus s xs = record { width = refl; value = refl }
unary_spelled unary.Minus s xs = record {
  width = summed_width true (replicate (length xs) false) (map not xs) (length-replicate (length xs) false ∙ sym (length-map xs not)) ∙ length-replicate (length xs) false;
  value = opposite_number xs;
}
unary_spelled unary.Not s xs = bit_spells _ _ (ap not (any_number xs))
unary_spelled unary.Invert s xs = record { width = length-map xs not; value = inverted_is xs }
unary_spelled unary.And s xs = bit_spells _ _ (all_number xs)
unary_spelled unary.Nand s xs = bit_spells _ _ (ap not (all_number xs))
unary_spelled unary.Or s xs = bit_spells _ _ (any_number xs)
unary_spelled unary.Nor s xs = bit_spells _ _ (ap not (any_number xs))
unary_spelled unary.Xor s xs = bit_spells _ _ (odd_number xs)
unary_spelled unary.Xnor s xs = bit_spells _ _ (ap not (odd_number xs))

pub unary_spells : (op : UnaryOp) (xs : List Bool) (a : PlainWord) → Spells xs a → Spells (unary_bits bits op tt xs).1 (unary_word op a)
unary_spells op xs a h =
    subst (λ w. Spells (unary_bits bits op tt xs).1 (unary_word op w)) (sym (spelled_is xs a h)) (unary_spelled op a.signed xs)

-- sums
no_carry : (a b : ℕ) → a + b + 0 ≡ a + b
no_carry a b = omega arith

sum_value : (xs ys : List Bool) → length xs ≡ length ys → number (summed bits tt false xs ys).bits ≡ (number xs + number ys) % 2 ^ length xs
sum_value xs ys h = summed_modulo false xs ys h ∙ ap (λ n. n % 2 ^ length xs) (no_carry (number xs) (number ys))

-- the order of two words
less_word :
    (signed s t : Bool) (xs ys : List Bool) → length xs ≡ length ys → 0 < length xs
    → (less bits signed tt xs ys).1 ≡ int_lt (read_as signed (spelled s xs)) (read_as signed (spelled t ys))
less_word true s t xs ys e k = below_signed xs ys e k
less_word false s t xs ys e k = below_unsigned xs ys e

lt_spelled :
    (signed s t : Bool) (xs ys : List Bool) → signed ≡ (s && t) → length xs ≡ length ys → 0 < length xs
    → (less bits signed tt xs ys).1 ≡ int_lt (read_as (s && t) (spelled s xs)) (read_as (s && t) (spelled t ys))
lt_spelled signed s t xs ys h e k =
    less_word signed s t xs ys e k ∙ ap (λ b. int_lt (read_as b (spelled s xs)) (read_as b (spelled t ys))) h

gt_spelled :
    (signed s t : Bool) (xs ys : List Bool) → signed ≡ (s && t) → length xs ≡ length ys → 0 < length xs
    → (less bits signed tt ys xs).1 ≡ int_lt (read_as (s && t) (spelled t ys)) (read_as (s && t) (spelled s xs))
gt_spelled signed s t xs ys h e k =
    less_word signed t s ys xs (sym e) (omega arith) ∙ ap (λ b. int_lt (read_as b (spelled t ys)) (read_as b (spelled s xs))) h

-- what fills a shift by `>>>`
fill_is : (signed s : Bool) (xs : List Bool) → signed ≡ s → 0 < length xs → cond signed (top bits xs) false ≡ (s && top_bit (length xs) (number xs))
fill_is true true xs h k = sym (top_is xs k)
fill_is false false xs h k = refl
fill_is true false xs h k = cc
fill_is false true xs h k = cc

or_is : (a b : Bool) → not (not a && not b) ≡ (a || b)
or_is true b = refl
or_is false true = refl
or_is false false = refl

binary_spelled :
    (op : BinaryOp) (signed s t : Bool) (xs ys : List Bool) → is_division op ≡ false → 0 < length xs
    → HasWidths op (spelled s xs) (spelled t ys) → HasSign op signed (spelled s xs) (spelled t ys)
    → Spells (binary_bits bits op signed tt xs ys).1 (binary_word op (spelled s xs) (spelled t ys))
binary_spelled binary.Mul signed s t xs ys d k h g = record { width = product_width xs ys h; value = product_number xs ys h }
binary_spelled binary.Div signed s t xs ys d k h g = cc
binary_spelled binary.Rem signed s t xs ys d k h g = cc
binary_spelled binary.Add signed s t xs ys d k h g = record { width = summed_width false xs ys h; value = sum_value xs ys h }
binary_spelled binary.Sub signed s t xs ys d k h g = record {
  width = summed_width true xs (map not ys) (h ∙ sym (length-map ys not));
  value = difference_number xs ys h;
}
binary_spelled binary.Shl signed s t xs ys d k h g = record { width = shifted_width Up false ys 1 xs; value = shifted_up ys xs }
binary_spelled binary.Shr signed s t xs ys d k h g = record { width = shifted_width Down false ys 1 xs; value = filled_shift false ys xs }
binary_spelled binary.ArithShl signed s t xs ys d k h g = record { width = shifted_width Up false ys 1 xs; value = shifted_up ys xs }
binary_spelled binary.ArithShr signed s t xs ys d k h g = record {
  width = shifted_width Down (cond signed (top bits xs) false) ys 1 xs;
  value = ap (λ f. number (shifted Down bits tt f 1 ys xs).1) (fill_is signed s xs g k) ∙ filled_shift (s && top_bit (length xs) (number xs)) ys xs;
}
binary_spelled binary.Lt signed s t xs ys d k h g = bit_spells _ _ (lt_spelled signed s t xs ys g h k)
binary_spelled binary.Le signed s t xs ys d k h g =
    bit_spells _ _ (ap not (gt_spelled signed s t xs ys g h k) ∙ not_under (read_as (s && t) (spelled s xs)) (read_as (s && t) (spelled t ys)))
binary_spelled binary.Gt signed s t xs ys d k h g = bit_spells _ _ (gt_spelled signed s t xs ys g h k)
binary_spelled binary.Ge signed s t xs ys d k h g =
    bit_spells _ _ (ap not (lt_spelled signed s t xs ys g h k) ∙ not_under (read_as (s && t) (spelled t ys)) (read_as (s && t) (spelled s xs)))
binary_spelled binary.Eq signed s t xs ys d k h g = bit_spells _ _ (equal_number xs ys h)
binary_spelled binary.Ne signed s t xs ys d k h g = bit_spells _ _ (ap not (equal_number xs ys h))
binary_spelled binary.And signed s t xs ys d k h g = record { width = each_width And xs ys h; value = each_and xs ys h }
binary_spelled binary.Xor signed s t xs ys d k h g = record { width = each_width Xor xs ys h; value = each_xor xs ys h }
binary_spelled binary.Xnor signed s t xs ys d k h g = record {
  width = length-map (each bits Xor tt xs ys).1 not ∙ each_width Xor xs ys h;
  value = each_xnor xs ys h;
}
binary_spelled binary.Or signed s t xs ys d k h g = record { width = each_width Or xs ys h; value = each_or xs ys h }
binary_spelled binary.LogicAnd signed s t xs ys d k h g =
    let p = any_number xs in let q = any_number ys in bit_spells _ _ (λ i. p i && q i)
binary_spelled binary.LogicOr signed s t xs ys d k h g =
    let p = any_number xs in let q = any_number ys in
    bit_spells _ _ (or_is (reduced bits Or tt xs).1 (reduced bits Or tt ys).1 ∙ (λ i. p i || q i))

pub binary_spells :
    (op : BinaryOp) (signed : Bool) (xs ys : List Bool) (a b : PlainWord) → is_division op ≡ false → 0 < a.width
    → HasWidths op a b → HasSign op signed a b → Spells xs a → Spells ys b
    → Spells (binary_bits bits op signed tt xs ys).1 (binary_word op a b)
binary_spells op signed xs ys a b d k h g p q =
    let left = spelled_is xs a p in let right = spelled_is ys b q in
    let widths : HasWidths op (spelled a.signed xs) (spelled b.signed ys) = subst (λ w. HasWidths op w (spelled b.signed ys)) left (subst (HasWidths op a) right h) in
    let sign : HasSign op signed (spelled a.signed xs) (spelled b.signed ys) = subst (λ w. HasSign op signed w (spelled b.signed ys)) left (subst (HasSign op signed a) right g) in
    let some : 0 < length xs = omega (arith, p.width) in
    let one = binary_spelled op signed a.signed b.signed xs ys d some widths sign in
    subst (λ w. Spells (binary_bits bits op signed tt xs ys).1 (binary_word op a w)) (sym right)
    (subst (λ w. Spells (binary_bits bits op signed tt xs ys).1 (binary_word op w (spelled b.signed ys))) (sym left) one)

-- extension
spread_ones : (p m : ℕ) → 0 < m → p * (m - 1) ≡ m * p - p
spread_ones p zero h = absurd (omega arith)
spread_ones p (suc m) h = let e : suc m - 1 ≡ m = omega arith in rw e (omega arith)

fill_value : (f : Bool) (l w : ℕ) → l ≤ w → 2 ^ l * cond f (2 ^ (w - l) - 1) 0 ≡ filled f l w
fill_value true l w h =
    let e : w ≡ w - l + l = omega arith in
    spread_ones (2 ^ l) (2 ^ (w - l)) (pow_pos (w - l)) ∙ ap (λ n. n - 2 ^ l) (sym (ap (λ n. 2 ^ n) e ∙ pow-add 2 (w - l) l))
fill_value false l w h = omega arith

full_width : (l w : ℕ) → l ≤ w → l + (w - l) ≡ w
full_width l w h = omega arith

extended_spelled :
    (signed s : Bool) (width : ℕ) (xs : List Bool) → 0 < length xs → length xs ≤ width
    → Spells (extended bits signed width xs) (word.extended width signed (spelled s xs))
extended_spelled signed s width xs h k =
    let fill : Bool = cond signed (top bits xs) false in
    let n : ℕ = width - length xs in
    record {
      width = length-append xs (replicate n fill) ∙ (ap (λ m. length xs + m) (length-replicate n fill) ∙ full_width (length xs) width k);
      value = number_append xs (replicate n fill)
          ∙ (ap (λ m. number xs + 2 ^ length xs * m) (number_repeated fill n)
          ∙ (ap (λ m. number xs + m) (fill_value fill (length xs) width k)
          ∙ ap (λ f. number xs + filled f (length xs) width) (fill_is signed signed xs refl h)));
    }

pub extended_spells :
    (signed : Bool) (width : ℕ) (xs : List Bool) (a : PlainWord) → Spells xs a → 0 < a.width → a.width ≤ width
    → Spells (extended bits signed width xs) (word.extended width signed a)
extended_spells signed width xs a h k l =
    let some : 0 < length xs = omega (arith, h.width) in
    let fits : length xs ≤ width = omega (arith, h.width) in
    subst (λ w. Spells (extended bits signed width xs) (word.extended width signed w)) (sym (spelled_is xs a h))
    (extended_spelled signed a.signed width xs some fits)
