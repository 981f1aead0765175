use Rattle.std.proofs.Common.{◌≡◌, drop, length}
use Rattle.rst_statement_gates.specs.Choices.{with_words, held_words}
use Rattle.rst_statement_gates.proofs.waiting.put.Given as goal

abbrev pub invariant-loop-k : goal.invariant-loop-k
invariant-loop-k l = record {
  run : with_words l.marks (held_words l.words) l.fn.wires ≡ with_words (drop l.k l.marks) (held_words (drop l.k l.words)) l.wires;
  count : length l.wires ≡ length l.fn.wires;
}
