use Rattle.std.proofs.Common.{◌≡◌, drop}
use Rattle.std.specs.List.{flat_map}
use Rattle.rst_names.specs.Faults.{first}
use Rattle.rst_elab.specs.ClockRows.{misused_event}
use Rattle.rst_elab.specs.Tables.{test_of}
use Rattle.rst_elab.proofs.clocks.misused_event.Given as goal

-- what is left has the first of all
abbrev pub invariant-loop-event : goal.invariant-loop-event
invariant-loop-event l = first (flat_map (misused_event (test_of l.test)) (drop l.event-index l.events)) ≡ first (flat_map (misused_event (test_of l.test)) l.events)
