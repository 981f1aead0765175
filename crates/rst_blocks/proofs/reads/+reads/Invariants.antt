use Rattle.std.proofs.Common.{◌≡◌, ◌++◌, drop}
use Rattle.rst_width.specs.Typed.{plain_all}
use Rattle.rst_blocks.specs.Reads.{list_reads}
use Rattle.rst_blocks.proofs.reads.+reads.Given as goal

-- with what is left it is all of it
abbrev pub invariant-read_by_all-loop-part : goal.invariant-read_by_all-loop-part
invariant-read_by_all-loop-part l = l.slices.items ++ list_reads (plain_all (drop l.part-index l.parts)) ≡ l.initial.slices.items ++ list_reads (plain_all l.parts)
