-- The words that are read, behind the muxes of resets, spell the valuation that a run of the units begins with.
use Rattle.std.proofs.Common.{◌≡◌, ◌∙◌, ℕ, zero, suc, ◌+◌, ◌*◌, ◌/◌, ◌%◌, ◌^◌, ◌<◌, Bool, true, false, not, cond, eqb, List, [], ◌∷◌, length, get_or, Option, Some, None, arith, refl, sym, ap, subst}
use Rattle.std.specs.List.{slice_get}
use Rattle.rst_value.specs.Bits.{bit_mux}
use Rattle.rst_width.specs.Typed.{sized_as}
use Rattle.rst_width.specs.Values.{Valuation, word_at}
use Rattle.rst_net.specs.declared.signal.Role.{Role}
use Rattle.rst_net.specs.declared.signal.Role.TheVariants as role
use Rattle.rst_net.specs.Units.{PlainSignal, PlainFlat}
use Rattle.rst_cycle.specs.Bits.{has_bit, same_bit}
use Rattle.rst_cycle.specs.Signals.{width_of, role_in, role_of, with_role}
use Rattle.rst_cycle.specs.Resets.{BitReset, reset_of, read_bit}
use Rattle.rst_cycle.specs.Cycle.{bit_count, given}
use Rattle.rst_terms.specs.Algebras.{bits, Step}
use Rattle.rst_terms.specs.Numbers.{digit, number}
use Rattle.rst_terms.specs.Spelling.{Spells}
use Rattle.rst_typed_terms.specs.Valuations.{AreSpelled}
use Rattle.rst_statement_terms.specs.Targets.{Words, word_of}
use Rattle.rst_design_terms.specs.Designs.{turned, start_words, holds_at, reset_bit, reset_bits, reset_word, reset_words}
use Rattle.rst_settled.specs.Orderly.{IsOrderly}
use Rattle.rst_settled.proofs.Numbers.{made}
use Rattle.rst_settled.proofs.SameResets.{same_read}
use Rattle.rst_settled.proofs.Start.{inputs_of, register_bit, start_of, start}
use Rattle.rst_agreement.proofs.Turned.{length_turned, turned_twice, first_bit, first_place, later_place}
use Rattle.rst_agreement.proofs.Starts.{begun, start_spells}

made_same : (w : ℕ) (f g : ℕ → Bool) → ((p : ℕ) → p < w → f p ≡ g p) → made w f ≡ made w g
made_same zero f g same = refl
made_same (suc w) f g same =
    let here = same w (omega arith) in
    let rest = made_same w f g (λ p below. same p (omega (arith, below))) in
    λ i. digit (here i) * 2 ^ w + rest i

-- ---- one bit

lowest_of : (b : Bool) (m : ℕ) → b ≡ has_bit (digit b + 2 * m) 0
lowest_of true m = let e : (digit true + 2 * m) / 2 ^ 0 % 2 ≡ 1 = omega arith in sym (ap (λ n. eqb n 1) e)
lowest_of false m = let e : (digit false + 2 * m) / 2 ^ 0 % 2 ≡ 0 = omega arith in sym (ap (λ n. eqb n 1) e)

lowest : (xs : List Bool) → get_or xs 0 false ≡ has_bit (number xs) 0
lowest [] = refl
lowest (x ∷ xs) = lowest_of x (number xs)

mux_is : (level e a x : Bool) → bit_mux (cond level e (not e)) a x ≡ cond (same_bit e level) a x
mux_is true true a x = refl
mux_is true false a x = refl
mux_is false true a x = refl
mux_is false false a x = refl

module _ (room : ℕ → ℕ) (words : Words Bool) (v : Valuation) (spelled : AreSpelled room (word_of words) v) where
  bit_read : (reset : Option BitReset) (x : Bool) → (reset_bit bits words reset tt x).1 ≡ read_bit reset v x
  bit_read None x = refl
  bit_read (Some reset) x =
      let e : get_or (word_of words reset.signal) 0 false ≡ has_bit (v reset.signal) 0 =
      lowest (word_of words reset.signal) ∙ ap (λ n. has_bit n 0) (spelled reset.signal).value in
      mux_is reset.level (get_or (word_of words reset.signal) 0 false) reset.value x ∙ ap (λ b. cond (same_bit b reset.level) reset.value x) e

  -- ---- the bits of a register

  bits_long : (resets : ℕ → Option BitReset) (xs : List Bool) → length (reset_bits bits words resets tt xs).1 ≡ length xs
  bits_long resets [] = refl
  bits_long resets (x ∷ xs) = ap suc (bits_long resets xs)

  abbrev reading : (ℕ → Option BitReset) → List Bool → ℕ → Bool
  reading resets xs p = read_bit (resets p) v (has_bit (number (turned xs)) p)

  bits_read : (resets : ℕ → Option BitReset) (xs : List Bool) → number (turned (reset_bits bits words resets tt xs).1) ≡ made (length xs) (reading resets xs)
  bits_read resets [] = refl
  bits_read resets (x ∷ xs) =
      let n : ℕ = length xs in
      let y : Bool = (reset_bit bits words (resets n) tt x).1 in
      let ys : List Bool = (reset_bits bits words resets tt xs).1 in
      let long = bits_long resets xs in
      let here : y ≡ reading resets (x ∷ xs) n = bit_read (resets n) x ∙ ap (read_bit (resets n) v) (sym (first_place x xs)) in
      let rest : number (turned ys) ≡ made n (reading resets (x ∷ xs)) =
      bits_read resets xs
      ∙ made_same n (reading resets xs) (reading resets (x ∷ xs)) (λ p below. ap (read_bit (resets p) v) (sym (later_place x xs p below))) in
      first_bit y ys ∙ (λ i. digit (here i) * 2 ^ long i + rest i)

-- ---- all words

start_long : (signals : List PlainSignal) (inputs state : List Bool) → length (start_words false signals inputs state) ≡ length signals
start_long [] inputs state = refl
start_long (s ∷ signals) inputs state = ap suc (start_long signals _ _)

word_at_place :
    (words : Words Bool) (resets : ℕ → ℕ → Option BitReset) (signals : List PlainSignal) (tail : Words Bool) (i j : ℕ) → length tail ≡ length signals
    → word_of (reset_words bits words resets tt i signals tail).1 j ≡ (reset_word bits words (resets (i + j)) (role_in (slice_get signals j)) tt (word_of tail j)).1
word_at_place words resets [] [] i j same = refl
word_at_place words resets [] (w ∷ tail) i j same = absurd (omega (arith, same))
word_at_place words resets (s ∷ signals) [] i j same = absurd (omega (arith, same))
word_at_place words resets (s ∷ signals) (w ∷ tail) i zero same =
    let here : i ≡ i + 0 = omega arith in
    ap (λ n. (reset_word bits words (resets n) s.role tt w).1) here
word_at_place words resets (s ∷ signals) (w ∷ tail) i (suc j) same =
    let next : suc i + j ≡ i + suc j = omega arith in
    word_at_place words resets signals tail (suc i) j (omega (arith, same))
    ∙ ap (λ n. (reset_word bits words (resets n) (role_in (slice_get signals j)) tt (word_of tail j)).1) next

module _ (flat : PlainFlat) (state input : List Bool) (orderly : IsOrderly flat)
    (wide : length input ≡ bit_count (with_role role.Input flat.signals)) (tall : length state ≡ bit_count (with_role role.Register flat.signals)) where
  abbrev room : ℕ → ℕ
  room i = width_of flat.signals i

  abbrev pub words : Words Bool
  words = start_words false flat.signals input state

  abbrev pub begin : Valuation
  begin i = begun (role_of flat.signals i) 0 flat.signals input state i

  pub begin_spelled : AreSpelled room (word_of words) begin
  begin_spelled i =
      let here : 0 + i ≡ i = omega arith in
      subst (λ n. Spells (word_of words i) (word_at (sized_as (room i) false) (begun (role_of flat.signals i) 0 flat.signals input state n))) here
      (start_spells flat.signals 0 input state wide tall i)

  -- resets are inputs
  begin_input : (i : ℕ) → role_of flat.signals i ≡ role.Input → begin i ≡ inputs_of flat input i
  begin_input i e = ap (λ q. begun q 0 flat.signals input state i) e

  word_read :
      (i : ℕ) (q : Role) (word : List Bool) → Spells word (word_at (sized_as (room i) false) (begun q 0 flat.signals input state i))
      → Spells (reset_word bits words (reset_of flat.clocked i) q tt word).1 (word_at (sized_as (room i) false) (start_of flat state input q i))
  word_read i role.Input word spells = spells
  word_read i role.Register word spells =
      let xs : List Bool = turned word in
      let ys : List Bool = (reset_bits bits words (reset_of flat.clocked i) tt xs).1 in
      let long : length xs ≡ room i = length_turned word ∙ spells.width in
      record {
        width = length_turned ys ∙ (bits_long room words begin begin_spelled (reset_of flat.clocked i) xs ∙ long);
        value = bits_read room words begin begin_spelled (reset_of flat.clocked i) xs
            ∙ (made_same (length xs) (reading room words begin begin_spelled (reset_of flat.clocked i) xs) (register_bit flat state input i)
            (λ p below.
            ap (λ n. read_bit (reset_of flat.clocked i p) begin (has_bit n p)) (ap number (turned_twice word) ∙ spells.value)
            ∙ same_read begin (inputs_of flat input) (has_bit (given (with_role role.Register flat.signals) state i) p) i p flat.clocked
            (λ process reset within is. begin_input reset.signal (orderly.design.resets process reset within is)))
            ∙ ap (λ n. made n (register_bit flat state input i)) long);
      }
  word_read i role.Clock word spells = spells
  word_read i role.Block word spells = spells
  word_read i role.Wire word spells = spells
  word_read i role.Idle word spells = spells

  pub reads_spelled : AreSpelled room (word_of (reset_words bits words (reset_of flat.clocked) tt 0 flat.signals words).1) (start flat state input)
  reads_spelled i =
      let here : 0 + i ≡ i = omega arith in
      let at : word_of (reset_words bits words (reset_of flat.clocked) tt 0 flat.signals words).1 i
      ≡ (reset_word bits words (reset_of flat.clocked i) (role_of flat.signals i) tt (word_of words i)).1 =
      word_at_place words (reset_of flat.clocked) flat.signals words 0 i (start_long flat.signals input state)
      ∙ ap (λ n. (reset_word bits words (reset_of flat.clocked n) (role_of flat.signals i) tt (word_of words i)).1) here in
      subst (λ w. Spells w (word_at (sized_as (room i) false) (start flat state input i))) (sym at)
      (word_read i (role_of flat.signals i) (word_of words i) (begin_spelled i))
