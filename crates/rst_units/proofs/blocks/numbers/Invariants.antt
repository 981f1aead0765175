use Rattle.std.proofs.Common.{◌≡◌, ◌++◌, map, drop}
use Rattle.rst_tree.specs.declared.module.Event.{Event}
use Rattle.rst_width.specs.Scopes.{names_of}
use Rattle.rst_items.specs.Items.{number_at}
use Rattle.rst_units.proofs.blocks.numbers.Given as goal

abbrev pub invariant-loop-event : goal.invariant-loop-event
invariant-loop-event l =
    l.made.items ++ map (λ (e : Event). number_at (names_of l.names) e.name) (drop l.event-index l.events)
    ≡ map (λ (e : Event). number_at (names_of l.names) e.name) l.events
