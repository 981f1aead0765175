use Rattle.std.proofs.Common.{◌≡◌, not, drop}
use Rattle.std.specs.List.{list_any}
use Rattle.rst_tree.specs.declared.module.Event.{Event}
use Rattle.rst_items.specs.ResetForms.{is_level}
use Rattle.rst_items.proofs.reset_forms.has_edge.Given as goal

-- what is left has an edge where all of them do
abbrev pub invariant-loop-event : goal.invariant-loop-event
invariant-loop-event l = list_any (λ (e : Event). not (is_level e.edge)) (drop l.event-index l.events) ≡ list_any (λ (e : Event). not (is_level e.edge)) l.events
