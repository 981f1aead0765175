use Rattle.std.proofs.Common.{◌≡◌, map, drop}
use Rattle.std.specs.List.{flat_map}
use Rattle.rst_names.specs.Faults.{first}
use Rattle.rst_tree.specs.Modules.{plain_net_name}
use Rattle.rst_elab.specs.ClockRows.{misused_in_net}
use Rattle.rst_elab.specs.Tables.{test_of}
use Rattle.rst_elab.proofs.clocks.misused_in_nets.Given as goal

-- what is left has the first of all
abbrev pub invariant-loop-net : goal.invariant-loop-net
invariant-loop-net l = first (flat_map (misused_in_net (test_of l.test)) (map plain_net_name (drop l.net-index l.nets))) ≡ first (flat_map (misused_in_net (test_of l.test)) (map plain_net_name l.nets))
