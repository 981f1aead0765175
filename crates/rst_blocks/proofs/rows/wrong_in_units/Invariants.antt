use Rattle.std.proofs.Common.{◌≡◌, drop, map}
use Rattle.rst_net.specs.Units.{plain_driver}
use Rattle.rst_blocks.specs.Blocks.{wrong_in_units}
use Rattle.rst_blocks.proofs.rows.wrong_in_units.Given as goal

abbrev pub invariant-loop-unit : goal.invariant-loop-unit
invariant-loop-unit l = wrong_in_units (map plain_driver (drop l.unit-index l.units)) ≡ wrong_in_units (map plain_driver l.units)
