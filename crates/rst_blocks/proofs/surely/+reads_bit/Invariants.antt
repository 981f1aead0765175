use Rattle.std.proofs.Common.{◌≡◌, drop}
use Rattle.rst_width.specs.Typed.{plain_all}
use Rattle.rst_cycle.specs.Drivers.{target_has}
use Rattle.rst_blocks.specs.Reads.{list_reads}
use Rattle.rst_blocks.proofs.surely.+reads_bit.Given as goal

-- what is left reads the bit where all of them do
abbrev pub invariant-any_reads-loop-part : goal.invariant-any_reads-loop-part
invariant-any_reads-loop-part l = target_has (list_reads (plain_all (drop l.part-index l.parts))) l.bit.signal l.bit.place ≡ target_has (list_reads (plain_all l.parts)) l.bit.signal l.bit.place
