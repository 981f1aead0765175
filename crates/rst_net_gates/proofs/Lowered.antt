-- The gates of a netlist, put together from resets, units and clocked blocks.
use Rattle.std.proofs.Common.{◌≡◌, ◌∙◌, ℕ, ◌+◌, ◌^◌, ◌<◌, ◌≤◌, false, List, [], ◌∷◌, length, map, arith, refl, sym, ap, subst, length-append, Result, Ok, Err, IfOk}
use Rattle.std.specs.List.{All, AllByRecursion}
use Rattle.std.proofs.lemmas.List.Elements.{All-nil, All-append}
use Rattle.std.proofs.lemmas.List.Sums.{sum-map, sum_by-cons}
use Rattle.rst_gate.specs.declared.edge.Edge.{Edge}
use Rattle.rst_gate.specs.GateLists.{GateList, next_node}
use Rattle.rst_gate.specs.Circuits.{Circuit, IsBelow}
use Rattle.rst_gate.specs.EdgeValues.{IsPrefix}
use Rattle.rst_gate.specs.SharedGates.{constant_edge}
use Rattle.rst_net.specs.declared.signal.Role.{Role}
use Rattle.rst_net.specs.declared.signal.Role.TheVariants as role
use Rattle.rst_net.specs.declared.signal.Signal.{Signal}
use Rattle.rst_net.specs.Units.{PlainSignal, PlainProcess, PlainDriver, PlainFlat, plain_signal}
use Rattle.rst_cycle.specs.Signals.{Whole, with_role, width_of}
use Rattle.rst_cycle.specs.Resets.{reset_of}
use Rattle.rst_cycle.specs.Cycle.{bit_count}
use Rattle.rst_word_gates.specs.GateAlgebra.{gates_so_far}
use Rattle.rst_lower.specs.WireWords.{widths_of, WiresStand}
use Rattle.rst_statement_terms.specs.Targets.{Words, word_of}
use Rattle.rst_design_terms.specs.Designs.{turned, start_words, clocked_bits, Designed, listed_words}
use Rattle.rst_design_terms.specs.Gates.{nodes_from, input_bits, state_bits, no_gates, designed}
use Rattle.rst_design_terms.specs.Lowerable.{ClockedFit, units_weight, clocked_weight}
use Rattle.rst_design_terms.proofs.Meaning.{design_grows}
use Rattle.rst_weight.specs.Weights.{weight}
use Rattle.rst_flow.specs.Nets.{HasFewBits}
use Rattle.rst_agreement.proofs.Turned.{length_turned}
use Rattle.rst_agreement.proofs.Lists.{IsListed, all_listed}
use Rattle.rst_reset_gates.specs.NodeWords.{role_bits, node_words}
use Rattle.rst_reset_gates.specs.Counts.{reset_count}
use Rattle.rst_reset_gates.proofs.NodeLemmas.{role_bits_are, start_is, words_long, words_wide, words_stand}
use Rattle.rst_reset_gates.proofs.TurnedWords.{turned_all}
use Rattle.rst_net_gates.specs.Netlists.{IsLowerable, numbers_of, settled_bits, settled_weight}
use Rattle.rst_net_gates.proofs.Weighing.{weighed}

-- ---- the room that resets and units take

module _ (flat : PlainFlat) (lowerable : IsLowerable flat) (n : ℕ) (room : n + weight flat ≤ 2 ^ 31) where
  pub clocked_light : (start : Words Edge) (ps : List PlainProcess) → widths_of start ≡ width_of flat.signals → length start ≡ length flat.signals → ps ≡ flat.clocked → 1 ≤ n
      → 1 + clocked_weight (widths_of start) (length start) ps ≤ 2 ^ 31
  clocked_light start ps wide count is some =
      let all = weighed flat lowerable.fits.units lowerable.fits.clocked in
      let same : clocked_weight (widths_of start) (length start) ps ≡ clocked_weight (width_of flat.signals) (length flat.signals) flat.clocked =
      λ j. clocked_weight (wide j) (count j) (is j) in
      omega (arith, all, same, some, room)

  pub resets_room : (ps : List PlainProcess) (k : ℕ) → ps ≡ flat.clocked → k ≡ length flat.signals → n + reset_count (reset_of ps) k ≤ 2 ^ 31
  resets_room ps k is count =
      let all = weighed flat lowerable.fits.units lowerable.fits.clocked in
      let same : reset_count (reset_of ps) k ≡ reset_count (reset_of flat.clocked) (length flat.signals) = λ j. reset_count (reset_of (is j)) (count j) in
      omega (arith, all, same, room)

  pub units_room : (wires : Words Edge) (us : List PlainDriver) (ps : List PlainProcess) (k later : ℕ) → widths_of wires ≡ width_of flat.signals → length wires ≡ length flat.signals
      → us ≡ flat.units → ps ≡ flat.clocked → k ≡ length flat.signals → later ≤ n + reset_count (reset_of ps) k
      → later + units_weight (widths_of wires) (length wires) us ≤ 2 ^ 31
  units_room wires us ps k later wide count us_are ps_are k_is few =
      let all = weighed flat lowerable.fits.units lowerable.fits.clocked in
      let resets : reset_count (reset_of ps) k ≡ reset_count (reset_of flat.clocked) (length flat.signals) = λ j. reset_count (reset_of (ps_are j)) (k_is j) in
      let units : units_weight (widths_of wires) (length wires) us ≡ units_weight (width_of flat.signals) (length flat.signals) flat.units =
      λ j. units_weight (wide j) (count j) (us_are j) in
      omega (arith, all, resets, units, few, room)

-- ---- the beginning

pub narrow : (ss ts : List Signal) (r : Role) (n m : ℕ) → ss ≡ ts → role_bits r (map plain_signal ts) ≤ n → n < m → role_bits r (map plain_signal ss) < m
narrow ss ts r n m is few less = let e = ap (λ xs. role_bits r (map plain_signal xs)) is in omega (arith, e, few, less)

pub few_inputs : (signals : List PlainSignal) (outputs : List ℕ) → HasFewBits signals outputs → role_bits role.Input signals ≤ 256
few_inputs signals outputs few = let e = role_bits_are role.Input signals in let f = few.inputs in omega (arith, e, f)

pub few_states : (signals : List PlainSignal) (outputs : List ℕ) → HasFewBits signals outputs → role_bits role.Register signals ≤ 512
few_states signals outputs few = let e = role_bits_are role.Register signals in let f = few.registers in omega (arith, e, f)

-- no gates yet, and the wires before any
pub record Begun (flat : PlainFlat) (inputs states : ℕ) (gates : GateList) (start : Words Edge) : Type 0 where
  pub inputs_are : inputs ≡ role_bits role.Input flat.signals
  pub states_are : states ≡ role_bits role.Register flat.signals
  pub none : gates ≡ record { inputs = inputs; states = states; gates = [] }
  pub words : start ≡ node_words flat.signals 1 (1 + inputs)
  pub few : HasFewBits flat.signals flat.outputs
  pub light : weight flat ≤ 16384
  pub lowerable : IsLowerable flat

module _ (flat : PlainFlat) (inputs states : ℕ) (gates : GateList) (start : Words Edge) (begun : Begun flat inputs states gates start) where
  first_node : next_node gates ≡ 1 + inputs + states
  first_node = let e = ap next_node begun.none in omega (arith, e)

  pub begun_stands : WiresStand (next_node gates) start
  begun_stands =
      let e = first_node in let i = begun.inputs_are in let s = begun.states_are in
      subst (WiresStand (next_node gates)) (sym begun.words)
      (words_stand (next_node gates) flat.signals 1 (1 + inputs) (omega (arith, e)) (omega (arith, e, i)) (omega (arith, e, s)))

  pub begun_wide : widths_of start ≡ width_of flat.signals
  begun_wide = λ j i. (ap (λ ws. widths_of ws i) begun.words ∙ words_wide flat.signals 1 (1 + inputs) i) j

  pub begun_count : length start ≡ length flat.signals
  begun_count = ap length begun.words ∙ words_long flat.signals 1 (1 + inputs)

  pub begun_room : next_node gates + weight flat ≤ 2 ^ 31
  begun_room =
      let e = first_node in let i = begun.inputs_are in let s = begun.states_are in let l = begun.light in
      let fi = few_inputs flat.signals flat.outputs begun.few in let fs = few_states flat.signals flat.outputs begun.few in
      omega (arith, e, i, s, l, fi, fs)

  pub clocked_fit : (ps : List PlainProcess) → ps ≡ flat.clocked → ClockedFit (widths_of start) ps
  clocked_fit ps is = subst (ClockedFit (widths_of start)) (sym is) (subst (λ (f : ℕ → ℕ). ClockedFit f flat.clocked) (sym begun_wide) begun.lowerable.fits.clocked)

  pub begun_narrow : (i : ℕ) → widths_of start i ≤ 64
  begun_narrow = subst (λ (f : ℕ → ℕ). (i : ℕ) → f i ≤ 64) (sym begun_wide) begun.lowerable.widths

  pub clocked_room : (ps : List PlainProcess) (later : ℕ) → ps ≡ flat.clocked → later ≤ next_node gates + settled_weight flat
      → later + clocked_weight (widths_of start) (length start) ps ≤ 2 ^ 31
  clocked_room ps later is few =
      let all = weighed flat begun.lowerable.fits.units begun.lowerable.fits.clocked in
      let wide = begun_wide in let count = begun_count in let room = begun_room in
      let same : clocked_weight (widths_of start) (length start) ps ≡ clocked_weight (width_of flat.signals) (length flat.signals) flat.clocked =
      λ j. clocked_weight (wide j) (count j) (is j) in
      omega (arith, all, same, few, room)

  -- ---- the whole design

  abbrev from : GateList → Words Edge → Designed GateList Edge
  from s words =
      let settled = settled_bits flat s words in
      let next = clocked_bits gates_so_far settled.1 settled.0 words flat.clocked in
      record {
        behind = next.0;
        outs = listed_words settled.1 flat.outputs;
        nexts = listed_words next.1 (numbers_of (with_role role.Register flat.signals));
      }

  from_is : from gates start ≡ designed flat
  from_is =
      let i : inputs ≡ input_bits flat = begun.inputs_are ∙ sym (role_bits_are role.Input flat.signals) in
      let s : states ≡ state_bits flat = begun.states_are ∙ sym (role_bits_are role.Register flat.signals) in
      let none : gates ≡ no_gates flat = begun.none ∙ (λ j. record { inputs = i j; states = s j; gates = [] }) in
      let words : start ≡ start_words (constant_edge false) flat.signals (nodes_from 1 (input_bits flat)) (nodes_from (1 + input_bits flat) (state_bits flat)) =
      begun.words
      ∙ (sym (start_is flat.signals 1 (1 + inputs))
      ∙ (λ j. start_words (constant_edge false) flat.signals (nodes_from 1 (sym (role_bits_are role.Input flat.signals) j))
      (nodes_from (1 + i j) (sym (role_bits_are role.Register flat.signals) j)))) in
      λ j. from (none j) (words j)

  -- what the code has made
  pub record Made (middle last : GateList) (wires held : Words Edge) (ps : List PlainProcess) : Type 0 where
    pub settled_gates : middle ≡ (settled_bits flat gates start).0
    pub settled_wires : wires ≡ (settled_bits flat gates start).1
    pub blocks : ps ≡ flat.clocked
    pub next_gates : last ≡ (clocked_bits gates_so_far wires middle start ps).0
    pub next_wires : held ≡ (clocked_bits gates_so_far wires middle start ps).1

  module _ (middle last : GateList) (wires held : Words Edge) (ps : List PlainProcess) (made : Made middle last wires held ps) where
    pub last_is : last ≡ (designed flat).behind
    last_is =
        made.next_gates
        ∙ ((λ j. (clocked_bits gates_so_far (made.settled_wires j) (made.settled_gates j) start (made.blocks j)).0)
        ∙ ap (λ (d : Designed GateList Edge). d.behind) from_is)

    pub outs_are : (outputs : List ℕ) (outs : List Edge) → outputs ≡ flat.outputs → outs ≡ listed_words wires outputs → outs ≡ (designed flat).outs
    outs_are outputs outs is listed =
        listed ∙ ((λ j. listed_words (made.settled_wires j) (is j)) ∙ ap (λ (d : Designed GateList Edge). d.outs) from_is)

    pub nexts_are : (numbers : List ℕ) (nexts : List Edge) → numbers ≡ numbers_of (with_role role.Register flat.signals) → nexts ≡ listed_words held numbers → nexts ≡ (designed flat).nexts
    nexts_are numbers nexts is listed =
        let held_is = made.next_wires ∙ (λ j. (clocked_bits gates_so_far (made.settled_wires j) (made.settled_gates j) start (made.blocks j)).1) in
        listed ∙ ((λ j. listed_words (held_is j) (is j)) ∙ ap (λ (d : Designed GateList Edge). d.nexts) from_is)

    -- inputs and states stay
    ports : (last.inputs ≡ inputs) × (last.states ≡ states)
    ports =
        let grown : IsPrefix (designed flat).behind (no_gates flat) = design_grows flat in (
          ap (λ (g : GateList). g.inputs) last_is ∙ (sym grown.inputs ∙ (role_bits_are role.Input flat.signals ∙ sym begun.inputs_are)),
          ap (λ (g : GateList). g.states) last_is ∙ (sym grown.states ∙ (role_bits_are role.Register flat.signals ∙ sym begun.states_are)),
        )

    pub states_stay : last.states ≡ role_bits role.Register flat.signals
    states_stay = ports.1 ∙ begun.states_are

    pub gates_few : next_node middle ≤ next_node gates + settled_weight flat → next_node last ≤ next_node middle + clocked_weight (widths_of start) (length start) ps → length last.gates ≤ weight flat
    gates_few one two =
        let all = weighed flat begun.lowerable.fits.units begun.lowerable.fits.clocked in
        let wide = begun_wide in let count = begun_count in let first = first_node in
        let same : clocked_weight (widths_of start) (length start) ps ≡ clocked_weight (width_of flat.signals) (length flat.signals) flat.clocked =
        λ j. clocked_weight (wide j) (count j) (made.blocks j) in
        let i = ports.0 in let s = ports.1 in
        omega (arith, all, same, one, two, first, i, s)

-- ---- the edges in bit order

pub listed_all : (P : Edge → Type 0) (words : Words Edge) → ((i : ℕ) → All P (word_of words i)) → (signals : List ℕ) → All P (listed_words words signals)
listed_all P words h [] = All-nil P
listed_all P words h (i ∷ signals) = All-append P (turned (word_of words i)) (listed_words words signals) (turned_all P (word_of words i) (h i)) (listed_all P words h signals)

pub listed_stand : (n : ℕ) (words : Words Edge) (signals : List ℕ) (edges : List Edge) → WiresStand n words → edges ≡ listed_words words signals → All (IsBelow n) edges
listed_stand n words signals edges h is = subst (All (IsBelow n)) (sym is) (listed_all (IsBelow n) words h.each signals)

count_more : (s : Whole) (some : List Whole) → bit_count (s ∷ some) ≡ s.width + bit_count some
count_more s some =
    let width : Whole → ℕ = λ w. w.width in
    sum-map width (s ∷ some) ∙ (sum_by-cons width s some ∙ ap (λ n. s.width + n) (sym (sum-map width some)))

some_long : (signals : List PlainSignal) (r : Role) (words : Words Edge) → ((i : ℕ) → widths_of words i ≡ width_of signals i)
    → (some : List Whole) → AllByRecursion (IsListed signals r) some → length (listed_words words (numbers_of some)) ≡ bit_count some
some_long signals r words wide [] all = refl
some_long signals r words wide (s ∷ some) all =
    let here = length_turned (word_of words s.number) in
    let width = wide s.number in
    let own = all.0.0 in
    let rest = some_long signals r words wide some all.1 in
    let both = length-append (turned (word_of words s.number)) (listed_words words (numbers_of some)) in
    let count = count_more s some in
    omega (arith, here, width, own, rest, both, count)

pub nexts_long : (signals : List PlainSignal) (words : Words Edge) (numbers : List ℕ) (nexts : List Edge) → widths_of words ≡ width_of signals
    → numbers ≡ numbers_of (with_role role.Register signals) → nexts ≡ listed_words words numbers → length nexts ≡ role_bits role.Register signals
nexts_long signals words numbers nexts wide is listed =
    ap length listed
    ∙ (ap (λ ns. length (listed_words words ns)) is
    ∙ (some_long signals role.Register words (λ i j. wide j i) (with_role role.Register signals) (all_listed signals role.Register)
    ∙ role_bits_are role.Register signals))

-- ---- results

pub made_gates : {E : Type 0} (r : Result Circuit E) (x y : Circuit) → x ≡ y → IfOk r (λ g. g ≡ x) → IfOk r (λ g. g ≡ y)
made_gates (Ok g) x y e h = h ∙ e
made_gates (Err f) x y e h = tt

pub made_few : {E : Type 0} (r : Result Circuit E) (x : Circuit) (n : ℕ) → length x.gates ≤ n → IfOk r (λ g. g ≡ x) → IfOk r (λ g. length g.gates ≤ n)
made_few (Ok g) x n few h = let e = ap (λ (z : Circuit). length z.gates) h in omega (arith, e, few)
made_few (Err f) x n few h = tt
