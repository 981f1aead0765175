-- Sets of targets, in two values.
use Rattle.std.proofs.Common.{◌≡◌, ℕ, zero, suc, ◌+◌, ◌-◌, ◌*◌, ◌/◌, ◌%◌, ◌^◌, ◌<◌, ◌≤◌, Bool, true, false, ◌||◌, List, [], ◌∷◌, ◌++◌, length, take, drop, get_or, set, cond, eqb, arith, refl, sym, ap, ◌∙◌, inl, inr, subst}
use Rattle.std.specs.List.{AllByRecursion, list_any}
use Rattle.std.proofs.lemmas.List.{length-append, length-take-le, length-drop, length-set, get_or-set_same, get_or-set_other}
use Rattle.std.proofs.lemmas.Bool.Decides.{eqb_tells}
use Rattle.std.proofs.lemmas.Nat.{pow-add}
use Rattle.rst_net.specs.declared.signal.Slice.{Slice}
use Rattle.rst_width.specs.Typed.{sized_as}
use Rattle.rst_width.specs.Values.{Valuation, word_at}
use Rattle.rst_terms.specs.Numbers.{number}
use Rattle.rst_terms.specs.Spelling.{Spells}
use Rattle.rst_terms.proofs.Places.{number_append, number_take, number_drop}
use Rattle.rst_typed_terms.specs.Valuations.{AreSpelled}
use Rattle.rst_cycle.specs.Bits as bit
use Rattle.rst_cycle.specs.Effects.{target_width}
use Rattle.rst_cycle.specs.Effects as effect
use Rattle.rst_statement_terms.specs.Targets.{Words, word_of, replaced, with_slice, with_target}
use Rattle.rst_statement_values.specs.Fits.{SliceInside}

-- the number of a word with some bits replaced
arrange : (a b c p q r : ℕ) → r ≡ p * q → a + p * (b + q * c) ≡ a + (b * p + c * r)
arrange a b c p q r h = rw h (omega arith)

sum_of : (low width rest len : ℕ) → low + width ≤ len → rest ≡ len - (low + width) → low + (width + rest) ≡ len
sum_of low width rest len h k = omega arith

pub replaced_width : (low width : ℕ) (part word : List Bool) → low + width ≤ length word → width ≤ length part → length (replaced low width part word) ≡ length word
replaced_width low width part word h k =
    length-append (take low word) (take width part ++ drop (low + width) word)
    ∙ ((λ i. length-take-le low word (omega arith) i + (length-append (take width part) (drop (low + width) word) ∙ ap (λ n. n + length (drop (low + width) word)) (length-take-le width part k)) i)
    ∙ sum_of low width (length (drop (low + width) word)) (length word) h (length-drop (low + width) word))

pub replaced_number :
    (low width : ℕ) (part word : List Bool) → low + width ≤ length word → width ≤ length part
    → number (replaced low width part word) ≡ bit.replaced low width (number word) (number part)
replaced_number low width part word h k =
    let upper : List Bool = drop (low + width) word in
    number_append (take low word) (take width part ++ upper)
    ∙ ((λ i. number_take low word (omega arith) i + 2 ^ (length-take-le low word (omega arith) i)
    * (number_append (take width part) upper ∙ (λ j. number_take width part k j + 2 ^ (length-take-le width part k j) * number_drop (low + width) word h j)) i)
    ∙ arrange (number word % 2 ^ low) (number part % 2 ^ width) (number word / 2 ^ (low + width)) (2 ^ low) (2 ^ width) (2 ^ (low + width)) (pow-add 2 low width))

-- a signal with a bit is there
pub there : (words : Words Bool) (i : ℕ) → 0 < length (word_of words i) → i < length words
there [] i h = absurd (omega arith)
there (w ∷ words) zero h = omega arith
there (w ∷ words) (suc i) h = let rest = there words i h in omega (arith, rest)

module _ (room : ℕ → ℕ) (words : Words Bool) (v : Valuation) (spelled : AreSpelled room (word_of words) v) (slice : Slice) (inside : SliceInside room slice) (part : List Bool) (wide : slice.width ≤ length part) where
  fits : slice.low + slice.width ≤ length (word_of words slice.signal)
  fits = let w = (spelled slice.signal).width in let h = inside.inside in omega (arith, w, h)

  some : slice.signal < length words
  some = let h = fits in let k = inside.some_bits in there words slice.signal (omega (arith, h, k))

  new_spells : (n : ℕ) → number part ≡ n → Spells (replaced slice.low slice.width part (word_of words slice.signal)) (word_at (sized_as (room slice.signal) false) (bit.replaced slice.low slice.width (v slice.signal) n))
  new_spells n h =
      let old = spelled slice.signal in
      record {
        width = replaced_width slice.low slice.width part (word_of words slice.signal) fits wide ∙ old.width;
        value = replaced_number slice.low slice.width part (word_of words slice.signal) fits wide
            ∙ (λ i. bit.replaced slice.low slice.width (old.value i) (h i));
      }

  pub slice_spelled : (n : ℕ) → number part ≡ n → AreSpelled room (word_of (with_slice slice part words)) (effect.with_slice slice n v)
  slice_spelled n h i =
      elim (eqb_tells i slice.signal) [
        | inl t ↦
            let new : List Bool = replaced slice.low slice.width part (word_of words slice.signal) in
            let here : word_of (with_slice slice part words) i ≡ new =
            ap (λ k. get_or (set words slice.signal new) k []) t.1 ∙ get_or-set_same words slice.signal new [] some in
            let spells = new_spells n h in
            let room_here : room i ≡ room slice.signal = ap room t.1 in
            let value_here : effect.with_slice slice n v i ≡ bit.replaced slice.low slice.width (v slice.signal) n =
            ap (λ b. cond b (bit.replaced slice.low slice.width (v i) n) (v i)) t.0 ∙ ap (λ k. bit.replaced slice.low slice.width (v k) n) t.1 in
            record {
              width = ap length here ∙ (spells.width ∙ sym room_here);
              value = ap number here ∙ (spells.value ∙ sym value_here);
            }
        | inr t ↦
            let new : List Bool = replaced slice.low slice.width part (word_of words slice.signal) in
            let here : word_of (with_slice slice part words) i ≡ word_of words i = get_or-set_other words slice.signal i new [] t.1 in
            let value_here : effect.with_slice slice n v i ≡ v i = ap (λ b. cond b (bit.replaced slice.low slice.width (v i) n) (v i)) t.0 in
            record {
              width = ap length here ∙ (spelled i).width;
              value = ap number here ∙ ((spelled i).value ∙ sym value_here);
            }
      ]

pub target_spelled :
    (room : ℕ → ℕ) (slices : List Slice) (words : Words Bool) (v : Valuation) (part : List Bool) (n : ℕ) → AllByRecursion (SliceInside room) slices
    → AreSpelled room (word_of words) v → target_width slices ≤ length part → number part ≡ n
    → AreSpelled room (word_of (with_target slices part words)) (effect.with_target slices n v)
target_spelled room [] words v part n inside spelled wide h = spelled
target_spelled room (slice ∷ slices) words v part n inside spelled wide h =
    let w : ℕ = target_width slices in
    let upper : List Bool = drop w part in
    let long : slice.width ≤ length upper = omega (arith, length-drop w part) in
    let value : number upper ≡ n / 2 ^ w = number_drop w part (omega arith) ∙ (λ i. h i / 2 ^ w) in
    target_spelled room slices (with_slice slice upper words) (effect.with_slice slice (n / 2 ^ w) v) part n inside.1
    (slice_spelled room words v spelled slice inside.0 upper long (n / 2 ^ w) value) (omega arith) h
