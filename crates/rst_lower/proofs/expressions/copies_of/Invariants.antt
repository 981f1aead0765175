use Rattle.std.proofs.Common.{◌≡◌}
use Rattle.rst_typed_terms.specs.Expressions.{copies}
use Rattle.rst_lower.proofs.expressions.copies_of.Given as goal

abbrev pub invariant-loop : goal.invariant-loop
invariant-loop l = l.bits.items ≡ copies l.counter l.word
