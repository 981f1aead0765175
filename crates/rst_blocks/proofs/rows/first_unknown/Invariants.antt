use Rattle.std.proofs.Common.{◌≡◌, drop}
use Rattle.rst_blocks.specs.Plain.{has}
use Rattle.rst_blocks.specs.Blocks.{first_unknown}
use Rattle.rst_blocks.proofs.rows.first_unknown.Given as goal

abbrev pub invariant-loop-slice : goal.invariant-loop-slice
invariant-loop-slice l = first_unknown (has l.known) (drop l.slice-index l.slices) ≡ first_unknown (has l.known) l.slices
