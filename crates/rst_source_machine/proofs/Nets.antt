-- Netlists in memory as sources.
use Rattle.std.proofs.Common.{◌≡◌, ◌∙◌, ℕ, ◌≤◌, List, sym, subst}
use Rattle.rst_value.specs.declared.tern.Tern.{Tern}
use Rattle.rst_gate.specs.Machine.{Machine}
use Rattle.rst_gate.specs.Patterns.{IsPattern, PatternSigns}
use Rattle.rst_gate.specs.TernMachine.{KnowsPattern}
use Rattle.rst_gate.specs.Circuits.{Circuit, IsCircuit}
use Rattle.rst_gate.specs.GateMachines.{machine_of, terns_of}
use Rattle.rst_gate.proofs.KnownWords.{pattern_signs}
use Rattle.rst_gate.proofs.Readings.{gates_are_sound}
use Rattle.rst_net.specs.Units.{PlainFlat}
use Rattle.rst_cycle.specs.Signals.{width_of}
use Rattle.rst_cycle.specs.Cycle.{IsMachineOf}
use Rattle.rst_flow.specs.declared.net.Net.{Net}
use Rattle.rst_flow.specs.Results.{IsNet}
use Rattle.rst_design_terms.specs.Gates.{gates_of}
use Rattle.rst_settled.specs.Designs.{IsDesign}
use Rattle.rst_agreement.specs.Fits.{DesignFits}
use Rattle.rst_source_machine.specs.Ordered.{ordered, net_design}
use Rattle.rst_source_machine.specs.Alike.{AreAlike}
use Rattle.rst_source_machine.proofs.Machines.{signs_over}
use Rattle.rst_source_machine.proofs.Designs.{fits_in_order}
use Rattle.rst_source_machine.proofs.Sources.{gates_are, gates_alike, keeps_states}

module _ (flat : PlainFlat) (net : Net) (is : IsNet flat net) where
  pub in_order : net_design net ≡ ordered flat is.order
  in_order = λ i. record { signals = is.signals i; units = is.units i; clocked = is.clocked i; outputs = is.outputs i }

  pub net_fits : DesignFits flat → DesignFits (net_design net)
  net_fits fits = subst DesignFits (sym in_order) (fits_in_order flat is.order fits)

  pub net_widths : IsDesign flat → (i : ℕ) → width_of (net_design net).signals i ≤ 64
  net_widths design i = subst (λ (f : PlainFlat). width_of f.signals i ≤ 64) (sym in_order) (design.widths i)

  module _ (design : IsDesign flat) (fits : DesignFits flat) (gates : Circuit) (made : gates ≡ gates_of (net_design net)) (stand : IsCircuit gates) (m : Machine)
      (source : IsMachineOf flat m) where
    from_order : gates ≡ gates_of (ordered flat is.order)
    from_order = made ∙ (λ i. gates_of (in_order i))

    pub net_alike : AreAlike (machine_of gates) m
    net_alike =
        subst (λ c. AreAlike (machine_of c) m) (sym from_order)
        (gates_alike flat is.order design fits is.passes (subst IsCircuit from_order stand).in_order m source)

    pub net_signs : (pattern : List (List Tern)) → IsPattern (machine_of gates) pattern → PatternSigns (machine_of gates) pattern → PatternSigns m pattern
    net_signs pattern p signs =
        let is_source : IsMachineOf flat (machine_of gates) =
        subst (λ c. IsMachineOf flat (machine_of c)) (sym from_order) (gates_are flat is.order design fits is.passes (subst IsCircuit from_order stand).in_order) in
        signs_over (machine_of gates) m pattern net_alike (keeps_states flat (machine_of gates) is_source) p signs

    pub net_known : (pattern : List (List Tern)) → IsPattern (machine_of gates) pattern → KnowsPattern (terns_of gates) pattern → PatternSigns m pattern
    net_known pattern p known = net_signs pattern p (pattern_signs (machine_of gates) (terns_of gates) pattern (gates_are_sound gates) known)
