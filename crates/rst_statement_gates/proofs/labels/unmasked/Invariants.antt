use Rattle.std.proofs.Common.{◌≡◌, ◌++◌, drop}
use Rattle.rst_statement_terms.specs.Statements.{unmasked}
use Rattle.rst_statement_gates.proofs.labels.unmasked.Given as goal

abbrev pub invariant-loop-k : goal.invariant-loop-k
invariant-loop-k l = unmasked l.mask l.word ≡ l.bits.items ++ unmasked l.left (drop l.k l.word)
