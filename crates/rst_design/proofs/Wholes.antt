-- A netlist, or a refusal, of the whole.
use Rattle.std.proofs.Common.{◌≡◌, List, Option, None, Result, Ok, Err, IfOk, IfErr, map, refl}
use Rattle.rst_tree.specs.Trees.{Text}
use Rattle.rst_tree.specs.Modules.{PlainModule}
use Rattle.rst_net.specs.declared.flat.Flat.{Flat}
use Rattle.rst_net.specs.Units.{PlainFlat, plain_signal, plain_flat}
use Rattle.rst_names.specs.declared.faults.ElabError.TheVariants as error
use Rattle.rst_names.specs.declared.faults.ElabFault.{ElabFault}
use Rattle.rst_names.specs.Faults.{Refuses, first, plain_fault}
use Rattle.rst_elab.specs.Elaborated.{faults, IsFlat}
use Rattle.rst_elab.proofs.TopLemmas.{flat-passes}
use Rattle.rst_flat_laws.proofs.Limits as limits
use Rattle.rst_flow.specs.declared.net.Net.{Net}
use Rattle.rst_flow.specs.Nets.{HasFewBits}
use Rattle.rst_flow.specs.Results.{IsNet}
use Rattle.rst_reject.specs.declared.stop.Stop.{Stop}
use Rattle.rst_reject.specs.declared.stop.Stop.TheVariants as stops
use Rattle.rst_reject.specs.Steps.{StopsBy}
use Rattle.rst_reject.proofs.Steps.{stops_first, stops_behind}
use Rattle.rst_causes.specs.Causes.{elaboration_reject}
use Rattle.rst_design.specs.Texts.{Spells, TextsGive}
use Rattle.rst_design.specs.Netlists.{IsNetlistOf}
use Rattle.rst_design.specs.Answers.{ElaborationGives, FlowGives, DesignGives}
use Rattle.rst_design.proofs.Gives.{spelled_gives}

-- what elaboration accepts
pub flat_told : (modules : List PlainModule) (top : Text) (clock : Option Text) (flat : PlainFlat) → first (faults modules top clock) ≡ None → IsFlat modules top clock flat → ElaborationGives modules top clock (Ok flat)
flat_told modules top clock flat none is = (none, is)

-- what it refuses
pub fault_told : (modules : List PlainModule) (top : Text) (clock : Option Text) (fault : ElabFault) → Refuses (error.Fault fault) (faults modules top clock)
    → StopsBy (ElaborationGives modules top clock) (stops.Rejected (elaboration_reject (plain_fault fault)))
fault_told modules top clock fault h = (plain_fault fault, h.is_first fault refl, refl)

-- a design that is accepted has few bits
pub few_bits : (modules : List PlainModule) (top : Text) (clock : Option Text) (flat : Flat) → ElaborationGives modules top clock (Ok (plain_flat flat)) → HasFewBits (map plain_signal flat.signals.items) flat.outputs.items
few_bits modules top clock flat (none, is) = limits.few (plain_flat flat) (flat-passes modules top clock (plain_flat flat) is none)

module _ (texts : List Text) (top : Text) (clock : Option Text) where
  -- a text is refused
  pub text_stops : (stop : Stop) → StopsBy (TextsGive 0 texts) stop → StopsBy (DesignGives texts top clock) stop
  text_stops stop h = stops_first (TextsGive 0 texts) _ stop h

  module _ (modules : List PlainModule) (spelled : Spells texts modules) where
    -- elaboration refuses
    pub elaboration_stops : (stop : Stop) → StopsBy (ElaborationGives modules top clock) stop → StopsBy (DesignGives texts top clock) stop
    elaboration_stops stop h =
        stops_behind (TextsGive 0 texts) _ modules stop (spelled_gives 0 texts modules spelled) (stops_first (ElaborationGives modules top clock) _ stop h)

    module _ (flat : PlainFlat) (elaborated : ElaborationGives modules top clock (Ok flat)) where
      -- flow refuses
      pub flow_stops : (result : Result Net Stop) → IfErr result (λ stop. StopsBy (FlowGives flat) stop) → IfErr result (λ stop. StopsBy (DesignGives texts top clock) stop)
      flow_stops (Ok net) h = tt
      flow_stops (Err stop) h =
          stops_behind (TextsGive 0 texts) _ modules stop (spelled_gives 0 texts modules spelled)
          (stops_behind (ElaborationGives modules top clock) _ flat stop elaborated (stops_first (FlowGives flat) _ stop h))

      -- nothing does
      pub netlist : (result : Result Net Stop) → IfOk result (IsNet flat) → IfOk result (IsNetlistOf texts top clock)
      netlist (Ok net) h = record {
        flat = flat;
        design = record { modules = modules; spelled = spelled; none = elaborated.0; is = elaborated.1 };
        made = h;
      }
      netlist (Err stop) h = tt
