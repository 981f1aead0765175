use Rattle.std.proofs.Common.{List, take, map, []}
use Rattle.rst_net.specs.declared.signal.Slice.{Slice}
use Rattle.rst_net.specs.Units.{PlainProcess, plain_process}
use Rattle.rst_drivers.specs.Counts.{AreCounted}
use Rattle.rst_drivers.proofs.drives.count_all_clocked.Given as goal

-- the clocked blocks so far are counted
abbrev pub invariant-loop-process : goal.invariant-loop-process
invariant-loop-process l = (places : List Slice) (bs : List PlainProcess) → AreCounted places bs [] l.blocks l.initial.drives → AreCounted places bs (map plain_process (take l.process-index l.clocked)) l.number l.drives
