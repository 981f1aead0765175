use Rattle.std.proofs.Common.{drop}
use Rattle.rst_width.specs.Typed.{plain_all, plain_vec}
use Rattle.rst_lower.specs.WireWords.{word_of, widths_of}
use Rattle.rst_lower.proofs.Lists.{PartsLeft}
use Rattle.rst_lower.proofs.expressions.+expressions.Given as goal

-- the parts so far, and those that are left
abbrev pub invariant-list-loop-part : goal.invariant-list-loop-part
invariant-list-loop-part l = PartsLeft (word_of l.wires) (widths_of l.wires) l.fn.gates (plain_vec l.parts) l.gates l.bits.items (plain_all (drop l.part-index l.part-items))
