use Rattle.std.proofs.Common.{drop}
use Rattle.rst_statement_gates.specs.Choices.{held_words}
use Rattle.rst_statement_gates.proofs.Merging.{MergeLeft}
use Rattle.rst_statement_gates.proofs.waiting.merge.Given as goal

abbrev pub invariant-loop-k : goal.invariant-loop-k
invariant-loop-k l =
    MergeLeft l.fn.gates l.fn.wires l.waiting.test l.waiting.marks.items (held_words l.waiting.words.items) l.gates l.wires
    (drop l.k l.waiting.marks.items) (held_words (drop l.k l.waiting.words.items))
