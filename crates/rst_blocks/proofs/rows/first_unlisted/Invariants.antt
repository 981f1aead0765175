use Rattle.std.proofs.Common.{◌≡◌, drop, map}
use Rattle.rst_net.specs.Units.{plain_driver}
use Rattle.rst_blocks.specs.Blocks.{first_unlisted}
use Rattle.rst_blocks.proofs.rows.first_unlisted.Given as goal

abbrev pub invariant-loop-unit : goal.invariant-loop-unit
invariant-loop-unit l = first_unlisted (map plain_driver (drop l.unit-index l.units)) ≡ first_unlisted (map plain_driver l.units)
