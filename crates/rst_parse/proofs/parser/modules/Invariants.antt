use Rattle.std.proofs.Common.{◌-◌, length, map}
use Rattle.rst_tree.specs.Modules.{plain_module}
use Rattle.rst_parse.proofs.PieceSteps.{Front}
use Rattle.rst_parse.proofs.parser.modules.Given as goal

abbrev pub invariant-loop-at : goal.invariant-loop-at
invariant-loop-at l = Front l.symbols l.at (map plain_module l.modules.items)

abbrev pub decreases-loop-at : goal.decreases-loop-at
decreases-loop-at l = length l.symbols - l.at
