-- Along a pattern the gates of a design go through the states of its terms.
use Rattle.std.proofs.Common.{◌≡◌, ◌∙◌, List, [], ◌∷◌, length, refl, sym, ap}
use Rattle.std.specs.List.{AllByRecursion}
use Rattle.rst_value.specs.declared.tern.Tern.{Tern}
use Rattle.rst_value.specs.Terns.{known}
use Rattle.rst_gate.specs.Operations.{on_terns}
use Rattle.rst_gate.specs.Circuits.{IsCircuit}
use Rattle.rst_gate.specs.GateMachines.{terns_of}
use Rattle.rst_gate.specs.TernMachine.{pattern_after}
use Rattle.rst_gate.proofs.Readings.{gates_keep_registers}
use Rattle.rst_gate.proofs.FoldLaws.{terns_fold}
use Rattle.rst_word_gates.proofs.Meaning.{terns_constant}
use Rattle.rst_sim.specs.Trails.{pattern_trail}
use Rattle.rst_net.specs.Units.{PlainFlat}
use Rattle.rst_design_terms.specs.Gates.{gates_of, input_bits, state_bits}
use Rattle.rst_design_terms.proofs.Meaning.{design_grows, designs_are}
use Rattle.rst_known.specs.Readings.{design_terns}

pub inputs_are : (flat : PlainFlat) → (gates_of flat).inputs ≡ input_bits flat
inputs_are flat = sym (design_grows flat).inputs

pub states_are : (flat : PlainFlat) → (gates_of flat).states ≡ state_bits flat
states_are flat = sym (design_grows flat).states

-- one cycle
pub step_is : (flat : PlainFlat) (state places : List Tern) → IsCircuit (gates_of flat) → length state ≡ state_bits flat → length places ≡ input_bits flat
    → (terns_of (gates_of flat)).step state places ≡ (design_terns flat).step state places
step_is flat state places is tall wide = (designs_are known on_terns terns_fold terns_constant flat places state wide tall is.in_order).nexts

pub next_tall : (flat : PlainFlat) (state places : List Tern) → IsCircuit (gates_of flat) → length ((terns_of (gates_of flat)).step state places) ≡ state_bits flat
next_tall flat state places is = gates_keep_registers (gates_of flat) is state places ∙ states_are flat

pub trails_are : (flat : PlainFlat) (state : List Tern) (pattern : List (List Tern)) → IsCircuit (gates_of flat) → length state ≡ state_bits flat
    → AllByRecursion (λ (places : List Tern). length places ≡ input_bits flat) pattern
    → pattern_trail (terns_of (gates_of flat)) state pattern ≡ pattern_trail (design_terns flat) state pattern
trails_are flat state [] is tall wide = refl
trails_are flat state (places ∷ pattern) is tall wide =
    let one = step_is flat state places is tall wide.0 in
    ap (λ (rest : List (List Tern)). state ∷ rest)
    (trails_are flat ((terns_of (gates_of flat)).step state places) pattern is (next_tall flat state places is) wide.1
    ∙ ap (λ (next : List Tern). pattern_trail (design_terns flat) next pattern) one)

pub behind_is : (flat : PlainFlat) (state : List Tern) (pattern : List (List Tern)) → IsCircuit (gates_of flat) → length state ≡ state_bits flat
    → AllByRecursion (λ (places : List Tern). length places ≡ input_bits flat) pattern
    → pattern_after (terns_of (gates_of flat)) state pattern ≡ pattern_after (design_terns flat) state pattern
behind_is flat state [] is tall wide = refl
behind_is flat state (places ∷ pattern) is tall wide =
    let one = step_is flat state places is tall wide.0 in
    behind_is flat ((terns_of (gates_of flat)).step state places) pattern is (next_tall flat state places is) wide.1
    ∙ ap (λ (next : List Tern). pattern_after (design_terns flat) next pattern) one
