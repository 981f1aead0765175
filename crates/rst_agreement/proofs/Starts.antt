-- The words before any operation spell the bits of the input and of the state.
use Rattle.std.proofs.Common.{◌≡◌, ◌∙◌, ℕ, zero, suc, ◌+◌, ◌-◌, ◌≤◌, Bool, true, false, cond, eqb, List, [], ◌∷◌, length, take, drop, replicate, sum, map, arith, length-drop, refl, sym, ap, subst, inl, inr}
use Rattle.std.specs.List.{slice_get}
use Rattle.std.proofs.lemmas.Bool.{cond-true, cond-false}
use Rattle.std.proofs.lemmas.Bool.Decides.{eqb_tells}
use Rattle.std.proofs.lemmas.List.{length-take-le, length-replicate}
use Rattle.std.proofs.lemmas.List.Sums.{sum-map, sum_by-cons}
use Rattle.rst_width.specs.Typed.{sized_as}
use Rattle.rst_width.specs.Values.{word_at}
use Rattle.rst_net.specs.declared.signal.Role.{Role}
use Rattle.rst_net.specs.declared.signal.Role.TheVariants as role
use Rattle.rst_net.specs.Units.{PlainSignal}
use Rattle.rst_cycle.specs.Bits.{spelled}
use Rattle.rst_cycle.specs.Signals.{Whole, same_role, with_role_from, width_in, role_in}
use Rattle.rst_cycle.specs.Cycle.{bit_count, given}
use Rattle.rst_terms.specs.Spelling.{Spells}
use Rattle.rst_terms.proofs.Places.{number_zeros}
use Rattle.rst_statement_terms.specs.Targets.{word_of}
use Rattle.rst_design_terms.specs.Designs.{turned, start_word, inputs_behind, state_behind, start_words}
use Rattle.rst_agreement.proofs.Turned.{length_turned, number_turned}

-- the signals of a role, where the first one has the number k, the role r and the width w
abbrev behind_one : Role → Role → ℕ → ℕ → List PlainSignal → List Whole
behind_one wanted r k w rest = cond (same_role r wanted) (record { number = k; width = w } ∷ with_role_from (suc k) wanted rest) (with_role_from (suc k) wanted rest)

-- the value of a signal of some role
abbrev pub begun : Role → ℕ → List PlainSignal → List Bool → List Bool → ℕ → ℕ
begun role.Input k signals inputs state i = given (with_role_from k role.Input signals) inputs i
begun role.Register k signals inputs state i = given (with_role_from k role.Register signals) state i
begun _ k signals inputs state i = 0

abbrev begun_behind : Role → Role → ℕ → ℕ → List PlainSignal → List Bool → List Bool → ℕ → ℕ
begun_behind role.Input r k w rest inputs state i = given (behind_one role.Input r k w rest) inputs i
begun_behind role.Register r k w rest inputs state i = given (behind_one role.Register r k w rest) state i
begun_behind _ r k w rest inputs state i = 0

begun_is : (q : Role) (k : ℕ) (s : PlainSignal) (rest : List PlainSignal) (inputs state : List Bool) (i : ℕ)
    → begun q k (s ∷ rest) inputs state i ≡ begun_behind q s.role k s.extent.width rest inputs state i
begun_is role.Input k s rest inputs state i = refl
begun_is role.Register k s rest inputs state i = refl
begun_is role.Clock k s rest inputs state i = refl
begun_is role.Block k s rest inputs state i = refl
begun_is role.Wire k s rest inputs state i = refl
begun_is role.Idle k s rest inputs state i = refl

-- ---- a later signal

next_place : (k j : ℕ) → k + suc j ≡ suc k + j
next_place k j = omega arith

not_first : (k j : ℕ) → eqb (k + suc j) k ≡ false
not_first k j = elim (eqb_tells (k + suc j) k) [ inl t ↦ let e = t.1 in absurd (omega (arith, e)) | inr t ↦ t.0 ]

is_first : (k : ℕ) → eqb (k + 0) k ≡ true
is_first k = elim (eqb_tells (k + 0) k) [ inl t ↦ t.0 | inr t ↦ let here : k + 0 ≡ k = omega arith in absurd (t.1 here) ]

later_given : (some : List Whole) (bits : List Bool) (k w j : ℕ) → given (record { number = k; width = w } ∷ some) bits (k + suc j) ≡ given some (drop w bits) (suc k + j)
later_given some bits k w j =
    cond-false (eqb (k + suc j) k) (spelled (take w bits)) (given some (drop w bits) (k + suc j)) (not_first k j) ∙ ap (given some (drop w bits)) (next_place k j)

later : (q r : Role) (k w : ℕ) (rest : List PlainSignal) (inputs state : List Bool) (j : ℕ)
    → begun_behind q r k w rest inputs state (k + suc j) ≡ begun q (suc k) rest (inputs_behind r w inputs) (state_behind r w state) (suc k + j)
later role.Input role.Input k w rest inputs state j = later_given (with_role_from (suc k) role.Input rest) inputs k w j
later role.Input role.Register k w rest inputs state j = ap (given (with_role_from (suc k) role.Input rest) inputs) (next_place k j)
later role.Input role.Clock k w rest inputs state j = ap (given (with_role_from (suc k) role.Input rest) inputs) (next_place k j)
later role.Input role.Block k w rest inputs state j = ap (given (with_role_from (suc k) role.Input rest) inputs) (next_place k j)
later role.Input role.Wire k w rest inputs state j = ap (given (with_role_from (suc k) role.Input rest) inputs) (next_place k j)
later role.Input role.Idle k w rest inputs state j = ap (given (with_role_from (suc k) role.Input rest) inputs) (next_place k j)
later role.Register role.Register k w rest inputs state j = later_given (with_role_from (suc k) role.Register rest) state k w j
later role.Register role.Input k w rest inputs state j = ap (given (with_role_from (suc k) role.Register rest) state) (next_place k j)
later role.Register role.Clock k w rest inputs state j = ap (given (with_role_from (suc k) role.Register rest) state) (next_place k j)
later role.Register role.Block k w rest inputs state j = ap (given (with_role_from (suc k) role.Register rest) state) (next_place k j)
later role.Register role.Wire k w rest inputs state j = ap (given (with_role_from (suc k) role.Register rest) state) (next_place k j)
later role.Register role.Idle k w rest inputs state j = ap (given (with_role_from (suc k) role.Register rest) state) (next_place k j)
later role.Clock r k w rest inputs state j = refl
later role.Block r k w rest inputs state j = refl
later role.Wire r k w rest inputs state j = refl
later role.Idle r k w rest inputs state j = refl

-- ---- the first signal

count_more : (k w : ℕ) (some : List Whole) → bit_count (record { number = k; width = w } ∷ some) ≡ w + bit_count some
count_more k w some =
    let width : Whole → ℕ = λ s. s.width in
    sum-map width (record { number = k; width = w } ∷ some) ∙ (sum_by-cons width (record { number = k; width = w }) some ∙ ap (λ n. w + n) (sym (sum-map width some)))

taken_spells : (bits : List Bool) (some : List Whole) (k w : ℕ) → w ≤ length bits
    → Spells (turned (take w bits)) (word_at (sized_as w false) (given (record { number = k; width = w } ∷ some) bits (k + 0)))
taken_spells bits some k w h = record {
  width = length_turned (take w bits) ∙ length-take-le w bits h;
  value = number_turned (take w bits) ∙ sym (cond-true (eqb (k + 0) k) (spelled (take w bits)) (given some (drop w bits) (k + 0)) (is_first k));
}

zeros_spell : (w : ℕ) → Spells (replicate w false) (word_at (sized_as w false) 0)
zeros_spell w = record { width = length-replicate w false; value = number_zeros w }

-- the input and the state have a bit for each of these signals
abbrev AreLong : Role → ℕ → ℕ → List PlainSignal → List Bool → List Bool → Type 0
AreLong r k w rest inputs state =
    (length inputs ≡ bit_count (behind_one role.Input r k w rest)) × (length state ≡ bit_count (behind_one role.Register r k w rest))

first_spells : (r : Role) (k w : ℕ) (rest : List PlainSignal) (inputs state : List Bool) → AreLong r k w rest inputs state
    → Spells (start_word false r w inputs state) (word_at (sized_as w false) (begun_behind r r k w rest inputs state (k + 0)))
first_spells role.Input k w rest inputs state h =
    let e : length inputs ≡ w + bit_count (with_role_from (suc k) role.Input rest) = h.0 ∙ count_more k w (with_role_from (suc k) role.Input rest) in
    taken_spells inputs (with_role_from (suc k) role.Input rest) k w (omega (arith, e))
first_spells role.Register k w rest inputs state h =
    let e : length state ≡ w + bit_count (with_role_from (suc k) role.Register rest) = h.1 ∙ count_more k w (with_role_from (suc k) role.Register rest) in
    taken_spells state (with_role_from (suc k) role.Register rest) k w (omega (arith, e))
first_spells role.Clock k w rest inputs state h = zeros_spell w
first_spells role.Block k w rest inputs state h = zeros_spell w
first_spells role.Wire k w rest inputs state h = zeros_spell w
first_spells role.Idle k w rest inputs state h = zeros_spell w

rest_inputs : (r : Role) (k w : ℕ) (rest : List PlainSignal) (inputs state : List Bool) → AreLong r k w rest inputs state
    → length (inputs_behind r w inputs) ≡ bit_count (with_role_from (suc k) role.Input rest)
rest_inputs role.Input k w rest inputs state h =
    let n : ℕ = bit_count (with_role_from (suc k) role.Input rest) in
    let e : length inputs ≡ w + n = h.0 ∙ count_more k w (with_role_from (suc k) role.Input rest) in
    let d : length (drop w inputs) ≡ length inputs - w = length-drop w inputs in
    let left : length (drop w inputs) ≡ n = omega (arith, e, d) in
    left
rest_inputs role.Register k w rest inputs state h = h.0
rest_inputs role.Clock k w rest inputs state h = h.0
rest_inputs role.Block k w rest inputs state h = h.0
rest_inputs role.Wire k w rest inputs state h = h.0
rest_inputs role.Idle k w rest inputs state h = h.0

rest_state : (r : Role) (k w : ℕ) (rest : List PlainSignal) (inputs state : List Bool) → AreLong r k w rest inputs state
    → length (state_behind r w state) ≡ bit_count (with_role_from (suc k) role.Register rest)
rest_state role.Register k w rest inputs state h =
    let n : ℕ = bit_count (with_role_from (suc k) role.Register rest) in
    let e : length state ≡ w + n = h.1 ∙ count_more k w (with_role_from (suc k) role.Register rest) in
    let d : length (drop w state) ≡ length state - w = length-drop w state in
    let left : length (drop w state) ≡ n = omega (arith, e, d) in
    left
rest_state role.Input k w rest inputs state h = h.1
rest_state role.Clock k w rest inputs state h = h.1
rest_state role.Block k w rest inputs state h = h.1
rest_state role.Wire k w rest inputs state h = h.1
rest_state role.Idle k w rest inputs state h = h.1

-- ---- all signals

pub start_spells :
    (signals : List PlainSignal) (k : ℕ) (inputs state : List Bool) → length inputs ≡ bit_count (with_role_from k role.Input signals)
    → length state ≡ bit_count (with_role_from k role.Register signals) → (j : ℕ)
    → Spells (word_of (start_words false signals inputs state) j)
    (word_at (sized_as (width_in (slice_get signals j)) false) (begun (role_in (slice_get signals j)) k signals inputs state (k + j)))
start_spells [] k inputs state hi hs j = record { width = refl; value = refl }
start_spells (s ∷ rest) k inputs state hi hs zero =
    subst (λ n. Spells (start_word false s.role s.extent.width inputs state) (word_at (sized_as s.extent.width false) n))
    (sym (begun_is s.role k s rest inputs state (k + 0))) (first_spells s.role k s.extent.width rest inputs state (hi, hs))
start_spells (s ∷ rest) k inputs state hi hs (suc j) =
    let w : ℕ = s.extent.width in
    let q : Role = role_in (slice_get rest j) in
    let others : List Bool = inputs_behind s.role w inputs in
    let left : List Bool = state_behind s.role w state in
    subst (λ n. Spells (word_of (start_words false rest others left) j) (word_at (sized_as (width_in (slice_get rest j)) false) n))
    (sym (begun_is q k s rest inputs state (k + suc j) ∙ later q s.role k w rest inputs state j))
    (start_spells rest (suc k) others left (rest_inputs s.role k w rest inputs state (hi, hs)) (rest_state s.role k w rest inputs state (hi, hs)) j)
