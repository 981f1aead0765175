use Rattle.std.proofs.Common.{take, map, []}
use Rattle.rst_net.specs.Units.{plain_driver}
use Rattle.rst_drivers.specs.Drives.{all_assigned, all_blocks}
use Rattle.rst_drivers.specs.Counts.{AreCounted}
use Rattle.rst_drivers.proofs.drives.count_units.Given as goal

-- the units so far are counted
abbrev pub invariant-loop-unit : goal.invariant-loop-unit
invariant-loop-unit l = AreCounted (all_assigned (map plain_driver (take l.unit-index l.units))) (all_blocks (map plain_driver (take l.unit-index l.units))) [] l.number l.drives
