-- The machine of a source, in the order of its units and out of it, and that of its gates.
use Rattle.std.proofs.Common.{◌≡◌, ◌∙◌, ℕ, zero, suc, ◌+◌, Bool, List, [], ◌∷◌, ◌++◌, length, length-append, arith, refl, sym, ap}
use Rattle.std.proofs.lemmas.List.Sums.{sum-map, sum_by-cons}
use Rattle.rst_value.specs.declared.tern.Tern.{Tern}
use Rattle.rst_gate.specs.Machine.{Machine}
use Rattle.rst_gate.specs.MachineLaws.{KeepsStates}
use Rattle.rst_gate.specs.Patterns.{IsPattern, PatternSigns}
use Rattle.rst_gate.specs.TernMachine.{KnowsPattern}
use Rattle.rst_gate.specs.Circuits.{IsInOrder, first_gate}
use Rattle.rst_gate.specs.GateMachines.{machine_of, terns_of}
use Rattle.rst_gate.proofs.KnownWords.{pattern_signs}
use Rattle.rst_gate.proofs.Readings.{gates_are_sound}
use Rattle.rst_width.specs.Values.{Valuation}
use Rattle.rst_net.specs.declared.signal.Role.TheVariants as role
use Rattle.rst_net.specs.Units.{PlainFlat}
use Rattle.rst_cycle.specs.Bits.{bits_of}
use Rattle.rst_cycle.specs.Signals.{Whole, with_role}
use Rattle.rst_cycle.specs.Cycle.{IsCycle, IsMachineOf, bit_count, given, listed, clocked_effect}
use Rattle.rst_flow.specs.Flows.{Passes}
use Rattle.rst_design_terms.specs.Gates.{gates_of}
use Rattle.rst_settled.specs.Designs.{IsDesign}
use Rattle.rst_settled.specs.Settling.{HasOneMachine}
use Rattle.rst_settled.proofs.Accepted.{settled_to, settled_from, orderly_net}
use Rattle.rst_settled.proofs.Settling.{accepted, one_machine}
use Rattle.rst_agreement.specs.Fits.{DesignFits}
use Rattle.rst_agreement.proofs.Machines.{is_machine}
use Rattle.rst_source_machine.specs.Ordered.{ordered}
use Rattle.rst_source_machine.specs.Alike.{AreAlike}
use Rattle.rst_source_machine.proofs.Machines.{turned, signs_over, pattern_over}
use Rattle.rst_source_machine.proofs.Designs.{fits_in_order}

-- ---- the order of the units changes no cycle

module _ (flat : PlainFlat) (order : List ℕ) (passes : Passes flat order) where
  cycle_to : (state input out next : List Bool) → IsCycle flat state input out next → IsCycle (ordered flat order) state input out next
  cycle_to state input out next c = record {
    signals = c.signals;
    settled = settled_to flat order passes.ordered state input c.signals c.settled;
    shows = c.shows;
    leads = c.leads;
  }

  cycle_from : (state input out next : List Bool) → IsCycle (ordered flat order) state input out next → IsCycle flat state input out next
  cycle_from state input out next c = record {
    signals = c.signals;
    settled = settled_from flat order passes.ordered state input c.signals c.settled;
    shows = c.shows;
    leads = c.leads;
  }

  pub machine_to : (m : Machine) → IsMachineOf flat m → IsMachineOf (ordered flat order) m
  machine_to m is = record {
    registers = is.registers;
    inputs = is.inputs;
    outputs = is.outputs;
    cycles = λ state input s i. cycle_to state input (m.out state input) (m.step state input) (is.cycles state input s i);
  }

  pub machine_from : (m : Machine) → IsMachineOf (ordered flat order) m → IsMachineOf flat m
  machine_from m is = record {
    registers = is.registers;
    inputs = is.inputs;
    outputs = is.outputs;
    cycles = λ state input s i. cycle_from state input (m.out state input) (m.step state input) (is.cycles state input s i);
  }

-- ---- a state leads to a state

bits_long : (w n : ℕ) → length (bits_of w n) ≡ w
bits_long zero n = refl
bits_long (suc w) n = ap suc (bits_long w n)

count_more : (s : Whole) (signals : List Whole) → bit_count (s ∷ signals) ≡ s.width + bit_count signals
count_more s signals =
    sum-map (λ (x : Whole). x.width) (s ∷ signals) ∙ (sum_by-cons (λ (x : Whole). x.width) s signals ∙ ap (λ n. s.width + n) (sym (sum-map (λ (x : Whole). x.width) signals)))

listed_long : (signals : List Whole) (v : Valuation) → length (listed signals v) ≡ bit_count signals
listed_long [] v = refl
listed_long (s ∷ signals) v =
    let first : List Bool = bits_of s.width (v s.number) in
    let others : List Bool = listed signals v in
    let joined : length (first ++ others) ≡ length first + length others = length-append first others in
    let one : length first ≡ s.width = bits_long s.width (v s.number) in
    let rest : length others ≡ bit_count signals = listed_long signals v in
    let whole : length (first ++ others) ≡ s.width + bit_count signals = omega (arith, joined, one, rest) in
    whole ∙ sym (count_more s signals)

pub keeps_states : (flat : PlainFlat) (m : Machine) → IsMachineOf flat m → KeepsStates m
keeps_states flat m is state input s i =
    let c = is.cycles state input s i in
    let registers : List Whole = with_role role.Register flat.signals in
    ap length c.leads ∙ (listed_long registers (clocked_effect c.signals flat.clocked (given registers state)) ∙ sym is.registers)

-- ---- two machines of one design

pub alike : (flat : PlainFlat) (a b : Machine) → HasOneMachine flat → IsMachineOf flat a → IsMachineOf flat b → AreAlike a b
alike flat a b one is_a is_b = record {
  registers = is_a.registers ∙ sym is_b.registers;
  inputs = is_a.inputs ∙ sym is_b.inputs;
  outputs = is_a.outputs ∙ sym is_b.outputs;
  same = λ state input s i.
      let s' : length state ≡ one.machine.registers = s ∙ (is_a.registers ∙ sym one.is.registers) in
      let i' : length input ≡ one.machine.inputs = i ∙ (is_a.inputs ∙ sym one.is.inputs) in
      let left = one.only a is_a state input s' i' in
      let right = one.only b is_b state input s' i' in
      (sym left.0 ∙ right.0, sym left.1 ∙ right.1);
}

-- ---- gates

module _ (flat : PlainFlat) (order : List ℕ) (design : IsDesign flat) (fits : DesignFits flat) (passes : Passes flat order)
    (in_order : IsInOrder (first_gate (gates_of (ordered flat order))) (gates_of (ordered flat order)).gates) where
  abbrev gates : Machine
  gates = machine_of (gates_of (ordered flat order))

  pub one : HasOneMachine flat
  one = one_machine flat (λ state input. accepted flat order state input design passes)

  pub gates_are : IsMachineOf flat gates
  gates_are = machine_from flat order passes gates (is_machine (ordered flat order) (orderly_net flat order design passes) (fits_in_order flat order fits) in_order)

  module _ (m : Machine) (is : IsMachineOf flat m) where
    pub gates_alike : AreAlike gates m
    gates_alike = alike flat gates m one gates_are is

    pub signs_to_source : (pattern : List (List Tern)) → IsPattern m pattern → PatternSigns gates pattern → PatternSigns m pattern
    signs_to_source pattern p signs =
        let a = gates_alike in
        signs_over gates m pattern a (keeps_states flat gates gates_are) (pattern_over m gates (sym a.inputs) pattern p) signs

    pub signs_to_gates : (pattern : List (List Tern)) → IsPattern m pattern → PatternSigns m pattern → PatternSigns gates pattern
    signs_to_gates pattern p signs = signs_over m gates pattern (turned gates m gates_alike) (keeps_states flat m is) p signs

    pub known_signs : (pattern : List (List Tern)) → IsPattern m pattern → KnowsPattern (terns_of (gates_of (ordered flat order))) pattern → PatternSigns m pattern
    known_signs pattern p known =
        signs_to_source pattern p (pattern_signs gates (terns_of (gates_of (ordered flat order))) pattern (gates_are_sound (gates_of (ordered flat order))) known)
