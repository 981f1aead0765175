use Rattle.std.proofs.Common.{◌≡◌, drop, map}
use Rattle.rst_net.specs.Units.{plain_process}
use Rattle.rst_blocks.specs.Blocks.{wrong_in_clocked}
use Rattle.rst_blocks.proofs.rows.wrong_in_clocked.Given as goal

abbrev pub invariant-loop-process : goal.invariant-loop-process
invariant-loop-process l = wrong_in_clocked (map plain_process (drop l.process-index l.clocked)) ≡ wrong_in_clocked (map plain_process l.clocked)
