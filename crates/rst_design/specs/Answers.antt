-- What the texts of a design come to, step by step: texts, elaboration, flow. The first step that refuses is the refusal.
use Rattle.std.specs.Prelude.{◌≡◌, ℕ, List, Option, Some, None, Result, Ok, Err}
use Rattle.rst_tree.specs.Trees.{Text}
use Rattle.rst_tree.specs.Modules.{PlainModule}
use Rattle.rst_net.specs.Units.{PlainFlat}
use Rattle.rst_names.specs.Faults.{Fault, first}
use Rattle.rst_elab.specs.Elaborated.{faults, IsFlat}
use Rattle.rst_flow.specs.declared.flowing.FlowError.{FlowError}
use Rattle.rst_flow.specs.Edges.{picks}
use Rattle.rst_flow.specs.Flows.{Passes, IsRefusal}
use Rattle.rst_reject.specs.declared.reject.Reject.{Reject}
use Rattle.rst_reject.specs.Steps.{Then}
use Rattle.rst_causes.specs.Causes.{elaboration_reject, flow_reject}
use Rattle.rst_design.specs.Texts.{TextsGive}

-- the flat design of modules below a top, or the refusal of the first fault of all rows
abbrev pub ElaborationGives : List PlainModule → Text → Option Text → Result PlainFlat Reject → Type 0
ElaborationGives modules top clock (Ok flat) = (first (faults modules top clock) ≡ None) × IsFlat modules top clock flat
ElaborationGives modules top clock (Err r) = (fault : Fault) × (first (faults modules top clock) ≡ Some fault) × (r ≡ elaboration_reject fault)

-- the order of the units of a flat design, or the refusal of the first row that holds
abbrev pub FlowGives : PlainFlat → Result (List ℕ) Reject → Type 0
FlowGives flat (Ok order) = Passes flat order
FlowGives flat (Err r) = (error : FlowError) × IsRefusal flat error × (flow_reject error ≡ Some r)

-- a flat design with the order of its units
pub record Ordered : Type 0 where
  pub flat : PlainFlat
  pub order : List ℕ

abbrev pub with_order : PlainFlat → List ℕ → Ordered
with_order flat order = record { flat = flat; order = order }

-- its netlist in plain form: the units in their order
abbrev pub in_order : Ordered → PlainFlat
in_order o = record o.flat { units = picks o.flat.units o.order }

-- the texts, behind them elaboration, and behind it flow
abbrev pub DesignGives : List Text → Text → Option Text → Result Ordered Reject → Type 0
DesignGives texts top clock =
    Then (TextsGive 0 texts) (λ modules. Then (ElaborationGives modules top clock) (λ flat. Then (FlowGives flat) (λ order answer. answer ≡ Ok (with_order flat order))))

-- the refusal of texts
abbrev pub IsRefused : List Text → Text → Option Text → Reject → Type 0
IsRefused texts top clock r = DesignGives texts top clock (Err r)
