use Rattle.std.proofs.Common.{◌≡◌, drop, map}
use Rattle.std.specs.List.{flat_map, enumerate_from}
use Rattle.rst_net.specs.Units.{plain_signal}
use Rattle.rst_names.specs.Faults.{first}
use Rattle.rst_drivers.specs.CodeRows.{many_in}
use Rattle.rst_drivers.proofs.flat_rows.drivers_pass.Given as goal

-- what is left has the first fault of all
abbrev pub invariant-loop-number : goal.invariant-loop-number
invariant-loop-number l =
    first (flat_map (many_in l.drives) (enumerate_from l.number (map plain_signal (drop l.number l.signals))))
    ≡ first (flat_map (many_in l.drives) (enumerate_from 0 (map plain_signal l.signals)))
