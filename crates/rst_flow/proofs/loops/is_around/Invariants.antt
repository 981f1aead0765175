use Rattle.std.proofs.Common.{◌≡◌, ℕ, ◌<◌, Some}
use Rattle.std.specs.List.{slice_get}
use Rattle.rst_order.specs.Graphs.{graph_of, OnCycle}
use Rattle.rst_flow.specs.declared.drives.Drive.{Drive}
use Rattle.rst_flow.proofs.loops.is_around.Given as goal

abbrev pub invariant-loop-drive : goal.invariant-loop-drive
invariant-loop-drive l = (k : ℕ) (drive : Drive) → k < l.drive-index → slice_get l.drives k ≡ Some drive → 0 < drive.width → OnCycle (graph_of l.predecessors) drive.unit → ⊥
