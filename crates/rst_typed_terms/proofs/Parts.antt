-- Parts of words in two values: constants, slices, picks, copies and joins.
use Rattle.std.proofs.Common.{◌≡◌, ℕ, zero, suc, ◌+◌, ◌-◌, ◌*◌, ◌/◌, ◌%◌, ◌^◌, ◌<◌, ◌≤◌, Bool, true, false, List, [], ◌∷◌, ◌++◌, length, take, drop, get_or, arith, refl, sym, ap, ◌∙◌, append_assoc}
use Rattle.std.proofs.lemmas.List.{map-id, length-append, length-drop, length-take-le, get_or-take}
use Rattle.std.proofs.Math.Nat.{suc-mul}
use Rattle.rst_word.specs.Words.{PlainWord, joined}
use Rattle.rst_width.specs.Values.{repeated}
use Rattle.rst_terms.specs.Algebras.{bits}
use Rattle.rst_terms.specs.Numbers.{digit, number, bits_of}
use Rattle.rst_terms.specs.Recurrences.{selected}
use Rattle.rst_terms.specs.Spelling.{Spells}
use Rattle.rst_terms.proofs.Places.{number_below, number_append, number_take, number_drop, number_bits, bits_width, bit_at_place}
use Rattle.rst_terms.proofs.Selects.{selected_bit, selected_width}
use Rattle.rst_typed_terms.specs.Expressions.{constants, copies}

-- bits of this width that spell this number
pub record HasBits (xs : List Bool) (w n : ℕ) : Type 0 where
  pub width : length xs ≡ w
  pub value : number xs ≡ n

pub constant_bits : (width value : ℕ) → value < 2 ^ width → HasBits (constants bits width value) width value
constant_bits width value h = record {
  width = ap length (map-id (bits_of width value)) ∙ bits_width width value;
  value = ap number (map-id (bits_of width value)) ∙ number_bits width value h;
}

pub slice_bits : (low width : ℕ) (xs : List Bool) → low + width ≤ length xs → HasBits (take width (drop low xs)) width (number xs / 2 ^ low % 2 ^ width)
slice_bits low width xs h =
    let left : width ≤ length (drop low xs) = omega (arith, length-drop low xs) in
    record {
      width = length-take-le width (drop low xs) left;
      value = number_take width (drop low xs) left ∙ ap (λ n. n % 2 ^ width) (number_drop low xs (omega arith));
    }

-- a word of one bit
alone : (xs : List Bool) → length xs ≡ 1 → number xs ≡ digit (get_or xs 0 false)
alone [] h = absurd (omega arith)
alone (true ∷ []) h = refl
alone (false ∷ []) h = refl
alone (x ∷ y ∷ xs) h = absurd (omega arith)

pub pick_bits :
    (ns xs : List Bool) → 2 ^ length ns ≤ length xs
    → HasBits (selected bits tt ns (take (2 ^ length ns) xs)).1 1 (number xs / 2 ^ number ns % 2)
pick_bits ns xs h =
    let width : length (take (2 ^ length ns) xs) ≡ 2 ^ length ns = length-take-le (2 ^ length ns) xs h in
    let one : length (selected bits tt ns (take (2 ^ length ns) xs)).1 ≡ 1 = selected_width ns (take (2 ^ length ns) xs) width in
    record {
      width = one;
      value = alone (selected bits tt ns (take (2 ^ length ns) xs)).1 one
          ∙ (ap digit (selected_bit ns (take (2 ^ length ns) xs) width ∙ get_or-take (2 ^ length ns) xs (number ns) false (number_below ns))
          ∙ bit_at_place xs (number ns));
    }

-- a word above another
swap : (a b p : ℕ) → a + p * b ≡ b * p + a
swap a b p = omega arith

add_swap : (a b : ℕ) → a + b ≡ b + a
add_swap a b = omega arith

pub join_bits : (xs fs : List Bool) (w front : PlainWord) → Spells xs w → Spells fs front → Spells (xs ++ fs) (joined front w)
join_bits xs fs w front h k = record {
  width = length-append xs fs ∙ ((λ i. h.width i + k.width i) ∙ add_swap w.width front.width);
  value = number_append xs fs ∙ ((λ i. h.value i + 2 ^ h.width i * k.value i) ∙ swap w.value front.value (2 ^ w.width));
}

pub copies_behind :
    (n : ℕ) (xs fs : List Bool) (w front : PlainWord) → Spells xs w → Spells fs front → Spells (copies n xs ++ fs) (repeated n front w)
copies_behind zero xs fs w front h k = k
copies_behind (suc n) xs fs w front h k =
    let rest = copies_behind n xs (xs ++ fs) w (joined front w) h (join_bits xs fs w front h k) in
    let same : copies n xs ++ xs ++ fs ≡ copies n xs ++ (xs ++ fs) = append_assoc (copies n xs) xs fs in
    record { width = ap length same ∙ rest.width; value = ap number same ∙ rest.value }

pub copies_width : {X : Type 0} (n : ℕ) (xs : List X) → length (copies n xs) ≡ n * length xs
copies_width zero xs = omega arith
copies_width (suc n) xs =
    length-append (copies n xs) xs ∙ (ap (λ k. k + length xs) (copies_width n xs) ∙ sym (suc-mul n (length xs)))

one_less : (n : ℕ) → suc n - 1 ≡ n
one_less n = omega arith

pub copies_spell : (count : ℕ) (xs : List Bool) (w : PlainWord) → 0 < count → Spells xs w → Spells (copies count xs) (repeated (count - 1) w w)
copies_spell zero xs w some h = absurd (omega arith)
copies_spell (suc n) xs w some h =
    let whole = copies_behind n xs xs w w h h in
    let less : repeated (suc n - 1) w w ≡ repeated n w w = ap (λ k. repeated k w w) (one_less n) in
    record { width = whole.width ∙ sym (ap (λ (v : PlainWord). v.width) less); value = whole.value ∙ sym (ap (λ (v : PlainWord). v.value) less) }
