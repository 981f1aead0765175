use Rattle.std.proofs.Common.{◌≡◌, map, drop}
use Rattle.std.specs.List.{flat_map}
use Rattle.rst_names.specs.Faults.{first}
use Rattle.rst_tree.specs.Modules.{plain_assign}
use Rattle.rst_elab.specs.ClockRows.{misused_in_assign}
use Rattle.rst_elab.specs.Tables.{test_of}
use Rattle.rst_elab.proofs.clocks.misused_in_assigns.Given as goal

-- what is left has the first of all
abbrev pub invariant-loop-assign : goal.invariant-loop-assign
invariant-loop-assign l = first (flat_map (misused_in_assign (test_of l.test)) (map plain_assign (drop l.assign-index l.assigns))) ≡ first (flat_map (misused_in_assign (test_of l.test)) (map plain_assign l.assigns))
