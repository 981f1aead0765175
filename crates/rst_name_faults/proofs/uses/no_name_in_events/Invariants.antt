use Rattle.std.proofs.Common.{◌≡◌, map, drop}
use Rattle.rst_names.specs.Faults.{first}
use Rattle.rst_names.specs.Declarations.{declarations}
use Rattle.rst_name_faults.specs.NameRows.{Awaited, undeclared_in}
use Rattle.rst_name_faults.specs.Tables.{module_of}
use Rattle.rst_name_faults.proofs.uses.no_name_in_events.Given as goal

abbrev pub invariant-loop-event : goal.invariant-loop-event
invariant-loop-event l = first (undeclared_in (declarations (module_of l.facts)) (map (λ e. Awaited e.name) (drop l.event-index l.events))) ≡ first (undeclared_in (declarations (module_of l.facts)) (map (λ e. Awaited e.name) l.events))
