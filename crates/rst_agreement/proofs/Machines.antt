-- The machine of a design's gates is the design's.
use Rattle.std.proofs.Common.{◌≡◌, ◌∙◌, ℕ, zero, suc, ◌+◌, Bool, false, List, [], ◌∷◌, ◌++◌, length, map, sum, replicate, length-append, arith, refl, sym, ap}
use Rattle.std.specs.List.{flat_map}
use Rattle.std.proofs.lemmas.List.{length-map, length-replicate}
use Rattle.std.proofs.lemmas.List.Sums.{sum-map, sum_by-cons}
use Rattle.rst_gate.specs.declared.edge.Edge.{Edge}
use Rattle.rst_gate.specs.Operations.{on_bits}
use Rattle.rst_gate.specs.GateLists.{GateList}
use Rattle.rst_gate.specs.Circuits.{IsInOrder, first_gate}
use Rattle.rst_gate.specs.EdgeValues.{IsPrefix}
use Rattle.rst_gate.specs.Nodes.{edge_value, node_values}
use Rattle.rst_gate.specs.GateMachines.{machine_of}
use Rattle.rst_gate.proofs.FoldLaws.{bits_fold}
use Rattle.rst_width.specs.Values.{Valuation}
use Rattle.rst_net.specs.declared.signal.Role.TheVariants as role
use Rattle.rst_net.specs.Units.{PlainSignal, PlainFlat}
use Rattle.rst_cycle.specs.Bits.{bits_of}
use Rattle.rst_cycle.specs.Signals.{with_role, width_of, role_of}
use Rattle.rst_cycle.specs.Resets.{reset_of}
use Rattle.rst_cycle.specs.Cycle.{IsCycle, IsMachineOf, bit_count, given, clocked_effect, output_bits}
use Rattle.rst_terms.specs.Algebras.{Step, bits}
use Rattle.rst_typed_terms.specs.Valuations.{AreSpelled}
use Rattle.rst_statement_terms.specs.Targets.{Words, word_of}
use Rattle.rst_word_gates.proofs.Meaning.{bits_constant}
use Rattle.rst_design_terms.specs.Designs.{design_bits, reset_words, units_bits, clocked_bits}
use Rattle.rst_design_terms.specs.Gates.{gates_of, no_gates, designed}
use Rattle.rst_design_terms.proofs.Meaning.{designs_are, design_grows}
use Rattle.rst_settled.specs.Orderly.{IsOrderly}
use Rattle.rst_settled.proofs.Start.{start}
use Rattle.rst_settled.proofs.Existence.{last, settled}
use Rattle.rst_agreement.specs.Fits.{DesignFits}
use Rattle.rst_agreement.proofs.Starts.{begun}
use Rattle.rst_agreement.proofs.Resets.{words, begin, begin_spelled, reads_spelled}
use Rattle.rst_agreement.proofs.Units.{units_spelled, clocked_spelled}
use Rattle.rst_agreement.proofs.Held.{clocked_at}
use Rattle.rst_agreement.proofs.Lists.{shown, kept}

module _ (flat : PlainFlat) (state input : List Bool) (orderly : IsOrderly flat) (fits : DesignFits flat)
    (wide : length input ≡ bit_count (with_role role.Input flat.signals)) (tall : length state ≡ bit_count (with_role role.Register flat.signals)) where
  abbrev room : ℕ → ℕ
  room i = width_of flat.signals i

  abbrev first : Words Bool
  first = words flat state input orderly wide tall

  abbrev reads : Step (Unit {0}) (Words Bool)
  reads = reset_words bits first (reset_of flat.clocked) tt 0 flat.signals first

  abbrev rested : Step (Unit {0}) (Words Bool)
  rested = units_bits bits reads.0 reads.1 flat.units

  abbrev next : Step (Unit {0}) (Words Bool)
  next = clocked_bits bits rested.1 rested.0 first flat.clocked

  rested_spelled : AreSpelled room (word_of rested.1) (last flat state input orderly)
  rested_spelled = units_spelled room flat.units fits.units reads.1 (start flat state input) (reads_spelled flat state input orderly wide tall)

  next_spelled : AreSpelled room (word_of next.1) (clocked_effect (last flat state input orderly) flat.clocked (begin flat state input orderly wide tall))
  next_spelled =
      clocked_spelled room rested.1 (last flat state input orderly) rested_spelled flat.clocked fits.clocked first
      (begin flat state input orderly wide tall) (begin_spelled flat state input orderly wide tall)

  -- what the terms give of bits is a cycle of the design
  pub is_cycle : IsCycle flat state input (design_bits bits flat tt input state).outs (design_bits bits flat tt input state).nexts
  is_cycle = record {
    signals = last flat state input orderly;
    settled = settled flat state input orderly;
    shows = shown flat.signals rested.1 (last flat state input orderly) rested_spelled flat.outputs;
    leads = kept flat.signals next.1 (clocked_effect (last flat state input orderly) flat.clocked (begin flat state input orderly wide tall))
        (clocked_effect (last flat state input orderly) flat.clocked (given (with_role role.Register flat.signals) state)) next_spelled
        (λ i e. clocked_at i (last flat state input orderly) flat.clocked (begin flat state input orderly wide tall) (given (with_role role.Register flat.signals) state)
        (ap (λ q. begun q 0 flat.signals input state i) e));
  }

bits_long : (w n : ℕ) → length (bits_of w n) ≡ w
bits_long zero n = refl
bits_long (suc w) n = ap suc (bits_long w n)

sum_more : (f : ℕ → ℕ) (i : ℕ) (is : List ℕ) → sum (map f (i ∷ is)) ≡ f i + sum (map f is)
sum_more f i is = sum-map f (i ∷ is) ∙ (sum_by-cons f i is ∙ ap (λ n. f i + n) (sym (sum-map f is)))

shown_long : (signals : List PlainSignal) (v : Valuation) (outputs : List ℕ) → length (flat_map (λ i. bits_of (width_of signals i) (v i)) outputs) ≡ sum (map (width_of signals) outputs)
shown_long signals v [] = refl
shown_long signals v (o ∷ outputs) =
    let w : ℕ = width_of signals o in
    let first : List Bool = bits_of w (v o) in
    let others : List Bool = flat_map (λ i. bits_of (width_of signals i) (v i)) outputs in
    let joined : length (first ++ others) ≡ length first + length others = length-append first others in
    let one : length first ≡ w = bits_long w (v o) in
    let rest : length others ≡ sum (map (width_of signals) outputs) = shown_long signals v outputs in
    let all : sum (map (width_of signals) (o ∷ outputs)) ≡ w + sum (map (width_of signals) outputs) = sum_more (width_of signals) o outputs in
    let whole : length (first ++ others) ≡ w + sum (map (width_of signals) outputs) = omega (arith, joined, one, rest) in
    whole ∙ sym all

pub is_machine : (flat : PlainFlat) → IsOrderly flat → DesignFits flat → IsInOrder (first_gate (gates_of flat)) (gates_of flat).gates → IsMachineOf flat (machine_of (gates_of flat))
is_machine flat orderly fits in_order =
    let m : ℕ = bit_count (with_role role.Input flat.signals) in
    let n : ℕ = bit_count (with_role role.Register flat.signals) in
    let grown : IsPrefix (designed flat).behind (no_gates flat) = design_grows flat in
    let values = λ (state input : List Bool) (tall : length state ≡ n) (wide : length input ≡ m).
    designs_are (λ b. b) on_bits bits_fold bits_constant flat input state wide tall in_order in
    let zeros : List Bool = replicate n false in
    let blank : List Bool = replicate m false in
    let some = is_cycle flat zeros blank orderly fits (length-replicate m false) (length-replicate n false) in
    let one = values zeros blank (length-replicate n false) (length-replicate m false) in
    record {
      registers = sym grown.states;
      inputs = sym grown.inputs;
      outputs = sym (length-map (gates_of flat).outs (edge_value on_bits (node_values on_bits (gates_of flat).gates blank zeros)))
          ∙ (ap length one.outs ∙ (ap length some.shows ∙ shown_long flat.signals some.signals flat.outputs));
      cycles = λ state input long_state long_input.
          let tall : length state ≡ n = long_state ∙ sym grown.states in
          let wide : length input ≡ m = long_input ∙ sym grown.inputs in
          let here = values state input tall wide in
          let cycle = is_cycle flat state input orderly fits wide tall in
          record {
            signals = cycle.signals;
            settled = cycle.settled;
            shows = here.outs ∙ cycle.shows;
            leads = here.nexts ∙ cycle.leads;
          };
    }
