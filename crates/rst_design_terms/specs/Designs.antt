-- The terms of a design, over any algebra: what a cycle shows, and the state that it leads to, by the bits of its input and of its
-- state. Each operation is asked for where it stands, so the order of the gates is that of the lines: the resets in the order of the
-- state, the units in their order, the clocked blocks in flat order.
-- Inputs, states and outputs are lists of bits in bit order: signals in flat order, in each the most significant bit first. The words of
-- signals have the lowest bit first.
use Rattle.std.specs.Prelude.{ℕ, suc, Bool, true, false, cond, List, [], ◌∷◌, length, take, drop, replicate, map, slice_index_or, Option, Some, None}
use Rattle.std.specs.List.{flat_map}
use Rattle.rst_terms.specs.Algebras.{Algebra, Step}
use Rattle.rst_net.specs.declared.signal.Role.{Role}
use Rattle.rst_net.specs.declared.signal.Role.TheVariants as role
use Rattle.rst_net.specs.Statements.{Statement, Set}
use Rattle.rst_net.specs.Units.{PlainSignal, PlainProcess, PlainDriver, Assign, Process, PlainFlat}
use Rattle.rst_cycle.specs.Signals.{with_role}
use Rattle.rst_cycle.specs.Resets.{BitReset, reset_of}
use Rattle.rst_statement_terms.specs.Targets.{Words, word_of}
use Rattle.rst_statement_terms.specs.Statements.{Held, Current, statement_bits}

-- a list turned around, in front of another
abbrev pub turned_onto : {X : Type 0} → List X → List X → List X
turned_onto [] others = others
turned_onto (x ∷ xs) others = turned_onto xs (x ∷ others)

abbrev pub turned : {X : Type 0} → List X → List X
turned xs = turned_onto xs []

-- The words before any operation: inputs and registers have the next bits of the input and of the state, all other bits are 0.
abbrev pub start_word : {X : Type 0} → X → Role → ℕ → List X → List X → List X
start_word low role.Input width inputs state = turned (take width inputs)
start_word low role.Register width inputs state = turned (take width state)
start_word low _ width inputs state = replicate width low

abbrev pub inputs_behind : {X : Type 0} → Role → ℕ → List X → List X
inputs_behind role.Input width inputs = drop width inputs
inputs_behind _ width inputs = inputs

abbrev pub state_behind : {X : Type 0} → Role → ℕ → List X → List X
state_behind role.Register width state = drop width state
state_behind _ width state = state

abbrev pub start_words : {X : Type 0} → X → List PlainSignal → List X → List X → Words X
start_words low [] inputs state = []
start_words low (s ∷ signals) inputs state =
    start_word low s.role s.extent.width inputs state
    ∷ start_words low signals (inputs_behind s.role s.extent.width inputs) (state_behind s.role s.extent.width state)

-- ---- resets

-- the bit of a reset's signal, inverted where the reset holds at 0
abbrev pub holds_at : {S X : Type 0} → Algebra S X → Bool → X → X
holds_at A level x = cond level x (A.negation x)

abbrev pub reset_bit : {S X : Type 0} → Algebra S X → Words X → Option BitReset → S → X → Step S X
reset_bit A start None s x = (s, x)
reset_bit A start (Some reset) s x =
    A.choice s (holds_at A reset.level (slice_index_or (word_of start reset.signal) 0 (A.constant false))) (A.constant reset.value) x

-- the bits of a signal, the most significant first
abbrev pub reset_bits : {S X : Type 0} → Algebra S X → Words X → (ℕ → Option BitReset) → S → List X → Step S (List X)
reset_bits A start resets s [] = (s, [])
reset_bits A start resets s (x ∷ xs) =
    let m = reset_bit A start (resets (length xs)) s x in
    let rest = reset_bits A start resets m.0 xs in
    (rest.0, m.1 ∷ rest.1)

-- the word of a register; that of another signal stays as it is
abbrev pub reset_word : {S X : Type 0} → Algebra S X → Words X → (ℕ → Option BitReset) → Role → S → List X → Step S (List X)
reset_word A start resets role.Register s word =
    let m = reset_bits A start resets s (turned word) in
    (m.0, turned m.1)
reset_word A start resets _ s word = (s, word)

-- the words of these signals, the first of which has this number
abbrev pub reset_words : {S X : Type 0} → Algebra S X → Words X → (ℕ → ℕ → Option BitReset) → S → ℕ → List PlainSignal → Words X → Step S (Words X)
reset_words A start resets s i [] words = (s, [])
reset_words A start resets s i (signal ∷ signals) [] = (s, [])
reset_words A start resets s i (signal ∷ signals) (word ∷ words) =
    let m = reset_word A start (resets i) signal.role s word in
    let rest = reset_words A start resets m.0 (suc i) signals words in
    (rest.0, m.1 ∷ rest.1)

-- ---- units and clocked blocks

-- a unit as a statement
abbrev pub unit_statement : PlainDriver → Statement
unit_statement (Assign set) = Set set
unit_statement (Process process) = process.body

abbrev pub unit_bits : {S X : Type 0} → Algebra S X → S → Words X → PlainDriver → Step S (Words X)
unit_bits A s words unit = statement_bits A Current s words (unit_statement unit)

abbrev pub units_bits : {S X : Type 0} → Algebra S X → S → Words X → List PlainDriver → Step S (Words X)
units_bits A s words [] = (s, words)
units_bits A s words (unit ∷ units) =
    let r = unit_bits A s words unit in
    units_bits A r.0 r.1 units

-- each clocked block reads the settled words, and sets bits of those that are held
abbrev pub clocked_bits : {S X : Type 0} → Algebra S X → Words X → S → Words X → List PlainProcess → Step S (Words X)
clocked_bits A settled s held [] = (s, held)
clocked_bits A settled s held (process ∷ processes) =
    let r = statement_bits A (Held settled) s held process.body in
    clocked_bits A settled r.0 r.1 processes

-- ---- the design

pub record Designed (S X : Type 0) : Type 0 where
  pub behind : S
  pub outs : List X
  pub nexts : List X

-- the bits of these signals in bit order
abbrev pub listed_words : {X : Type 0} → Words X → List ℕ → List X
listed_words words signals = flat_map (λ i. turned (word_of words i)) signals

-- A register bit that no clocked block sets holds its bit of the state, whatever its reset.
abbrev pub design_bits : {S X : Type 0} → Algebra S X → PlainFlat → S → List X → List X → Designed S X
design_bits A flat s inputs state =
    let start = start_words (A.constant false) flat.signals inputs state in
    let reads = reset_words A start (reset_of flat.clocked) s 0 flat.signals start in
    let settled = units_bits A reads.0 reads.1 flat.units in
    let next = clocked_bits A settled.1 settled.0 start flat.clocked in
    record {
      behind = next.0;
      outs = listed_words settled.1 flat.outputs;
      nexts = listed_words next.1 (map (λ s. s.number) (with_role role.Register flat.signals));
    }
