use Rattle.std.proofs.Common.{◌≡◌, drop}
use Rattle.rst_cert_reader.specs.Sections.{marked_behind}
use Rattle.rst_cert_reader.proofs.gathered.marked_in.Given as goal

abbrev pub invariant-loop-bit : goal.invariant-loop-bit
invariant-loop-bit l = marked_behind l.marked (drop l.bit-index l.bits) ≡ marked_behind 0 l.bits
