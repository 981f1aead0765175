use Rattle.std.proofs.Common.{ℕ, drop, map, Option}
use Rattle.rst_net.specs.Units.{plain_driver}
use Rattle.rst_blocks.specs.Blocks.{HeldIs}
use Rattle.rst_blocks.proofs.rows.first_held.Given as goal

-- what the units that are left answer is what all answer
abbrev pub invariant-loop-unit : goal.invariant-loop-unit
invariant-loop-unit l = (answer : Option ℕ) → HeldIs (map plain_driver (drop l.unit-index l.units)) answer → HeldIs (map plain_driver l.units) answer
