-- What the gates of a netlist know is what its terms know.
use Rattle.std.proofs.Common.{◌≡◌, ◌∙◌, ◌≤◌, ℕ, zero, suc, List, length, replicate, map, sum, Result, Ok, Err, refl, sym, ap, subst, arith}
use Rattle.std.specs.Prelude.{IfOk}
use Rattle.std.specs.List.{AllByRecursion}
use Rattle.rst_outside.specs.declared.names.NoMemory.{NoMemory}
use Rattle.rst_sim.specs.declared.run.TernTrace.{TernTrace}
use Rattle.rst_verdict.specs.declared.verdict.Verdict.{Verdict}
use Rattle.rst_value.specs.declared.tern.Tern.{Tern}
use Rattle.rst_value.specs.declared.tern.Tern.TheVariants.{Unknown}
use Rattle.rst_gate.specs.Circuits.{Circuit, IsCircuit}
use Rattle.rst_gate.specs.Patterns.{IsPattern}
use Rattle.rst_gate.specs.GateMachines.{machine_of, terns_of}
use Rattle.rst_gate.specs.TernMachine.{IsKnown, KnowsPattern, pattern_after}
use Rattle.rst_sim.specs.Trails.{pattern_trail}
use Rattle.rst_net.specs.Units.{PlainFlat}
use Rattle.rst_design_terms.specs.Gates.{gates_of, input_bits, state_bits}
use Rattle.rst_known.specs.Readings.{design_terns}
use Rattle.rst_known.proofs.Trails.{inputs_are, states_are, trails_are, behind_is}
use Rattle.rst_cycle.specs.Signals.{width_of}
use Rattle.rst_cycle.specs.Cycle.{IsMachineOf}
use Rattle.rst_weight.specs.Weights.{weight}
use Rattle.rst_flow.specs.declared.net.Net.{Net}
use Rattle.rst_settled.specs.Orderly.{IsOrderly}
use Rattle.rst_agreement.specs.Fits.{DesignFits}
use Rattle.rst_agreement.proofs.Machines.{is_machine}
use Rattle.rst_design.specs.Netlists.{plain_net}
use Rattle.rst_pose.specs.Posing.{IsSmall}
use Rattle.rst_relation.specs.Verdicts.{Decides}
use Rattle.rst_replies.specs.Replies.{power_up, HasOrderedGates}

-- a pattern of the design is one of its gates
pub pattern_fits : (flat : PlainFlat) (gates : Circuit) (pattern : List (List Tern)) → gates ≡ gates_of flat
    → AllByRecursion (λ (places : List Tern). length places ≡ input_bits flat) pattern → IsPattern (machine_of gates) pattern
pattern_fits flat gates pattern is wide =
    let P : ℕ → Type 0 = λ m. AllByRecursion (λ (places : List Tern). length places ≡ m) pattern in
    subst P (sym (ap (λ (c : Circuit). c.inputs) is ∙ inputs_are flat)) wide

tall : (count : ℕ) → length (replicate count Unknown) ≡ count
tall zero = refl
tall (suc n) = ap suc (tall n)

-- from power-up, along a pattern
pub gates_trail : (flat : PlainFlat) (gates : Circuit) (pattern : List (List Tern)) → gates ≡ gates_of flat → IsCircuit gates
    → AllByRecursion (λ (places : List Tern). length places ≡ input_bits flat) pattern
    → pattern_trail (terns_of gates) (replicate gates.states Unknown) pattern ≡ pattern_trail (design_terns flat) (power_up flat) pattern
gates_trail flat gates pattern is circuit wide =
    ap (λ (c : Circuit). pattern_trail (terns_of c) (replicate c.states Unknown) pattern) is
    ∙ (ap (λ (n : ℕ). pattern_trail (terns_of (gates_of flat)) (replicate n Unknown) pattern) (states_are flat)
    ∙ trails_are flat (power_up flat) pattern (subst IsCircuit is circuit) (tall (state_bits flat)) wide)

-- all registers are known behind a pattern by the gates exactly where they are by the terms
pub gates_know : (flat : PlainFlat) (gates : Circuit) (pattern : List (List Tern)) → gates ≡ gates_of flat → IsCircuit gates
    → AllByRecursion (λ (places : List Tern). length places ≡ input_bits flat) pattern
    → KnowsPattern (terns_of gates) pattern ≡ KnowsPattern (design_terns flat) pattern
gates_know flat gates pattern is circuit wide =
    ap (λ (c : Circuit). AllByRecursion IsKnown (pattern_after (terns_of c) (replicate c.states Unknown) pattern)) is
    ∙ (ap (λ (n : ℕ). AllByRecursion IsKnown (pattern_after (terns_of (gates_of flat)) (replicate n Unknown) pattern)) (states_are flat)
    ∙ ap (AllByRecursion IsKnown) (behind_is flat (power_up flat) pattern (subst IsCircuit is circuit) (tall (state_bits flat)) wide))

pub gates_ordered : (flat : PlainFlat) (gates : Circuit) → gates ≡ gates_of flat → IsCircuit gates → HasOrderedGates flat
gates_ordered flat gates is circuit = (subst IsCircuit is circuit).in_order

-- what the code found
pub trace_ok : (flat : PlainFlat) (gates : Circuit) (pattern : List (List Tern)) (result : Result TernTrace NoMemory) → gates ≡ gates_of flat → IsCircuit gates
    → AllByRecursion (λ (places : List Tern). length places ≡ input_bits flat) pattern
    → IfOk result (λ trace. trace.states.items ≡ pattern_trail (terns_of gates) (replicate gates.states Unknown) pattern)
    → IfOk result (λ trace. trace.states.items ≡ pattern_trail (design_terns flat) (power_up flat) pattern)
trace_ok flat gates pattern (Ok trace) is circuit wide states = states ∙ gates_trail flat gates pattern is circuit wide
trace_ok flat gates pattern (Err e) is circuit wide states = tt

-- what may be answered of the gates may be answered of the design
pub decides_ok : (flat : PlainFlat) (gates : Circuit) (pattern own : List (List Tern)) (budget : ℕ) (result : Result Verdict NoMemory) → own ≡ pattern → gates ≡ gates_of flat → IsCircuit gates
    → AllByRecursion (λ (places : List Tern). length places ≡ input_bits flat) pattern
    → IfOk result (λ verdict. Decides (KnowsPattern (terns_of gates) own) gates own budget verdict)
    → IfOk result (λ verdict. Decides (KnowsPattern (design_terns flat) pattern) (gates_of flat) pattern budget verdict)
decides_ok flat gates pattern own budget (Ok verdict) same is circuit wide decides =
    let a : Decides (KnowsPattern (terns_of gates) pattern) gates pattern budget verdict =
    subst (λ (p : List (List Tern)). Decides (KnowsPattern (terns_of gates) p) gates p budget verdict) same decides in
    subst (λ (c : Circuit). Decides (KnowsPattern (design_terns flat) pattern) c pattern budget verdict) is
    (subst (λ (K : Type 0). Decides K gates pattern budget verdict) (gates_know flat gates pattern is circuit wide) a)
decides_ok flat gates pattern own budget (Err e) same is circuit wide decides = tt

-- the gates are within the limits
pub gates_small : (net : Net) (gates : Circuit) → gates ≡ gates_of (plain_net net) → IsCircuit gates → IsOrderly (plain_net net) → DesignFits (plain_net net)
    → length gates.gates ≤ weight (plain_net net) → IsSmall gates
gates_small net gates is circuit orderly fits few =
    let flat : PlainFlat = plain_net net in
    let m : IsMachineOf flat (machine_of (gates_of flat)) = is_machine flat orderly fits (gates_ordered flat gates is circuit) in
    let outs : length (gates_of flat).outs ≡ sum (map (width_of flat.signals) flat.outputs) = m.outputs in
    let states : gates.states ≡ state_bits flat = ap (λ (c : Circuit). c.states) is ∙ states_are flat in
    let inputs : gates.inputs ≡ input_bits flat = ap (λ (c : Circuit). c.inputs) is ∙ inputs_are flat in
    let shown : length gates.outs ≡ sum (map (width_of flat.signals) flat.outputs) = ap (λ (c : Circuit). length c.outs) is ∙ outs in
    record {
      gates = omega (arith, few, net.light);
      states = omega (arith, states, net.few.registers);
      nexts = omega (arith, circuit.each_state, states, net.few.registers);
      inputs = omega (arith, inputs, net.few.inputs);
      outs = omega (arith, shown, net.few.output_bits);
    }
