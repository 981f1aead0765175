use Rattle.std.proofs.Common.{◌≡◌, ◌++◌, drop}
use Rattle.rst_statement_gates.specs.Choices.{words_at, held_words}
use Rattle.rst_statement_gates.proofs.waiting.words_at.Given as goal

abbrev pub invariant-loop-k : goal.invariant-loop-k
invariant-loop-k l = words_at l.marks l.wires ≡ held_words l.words.items ++ words_at (drop l.k l.marks) l.wires
