use Rattle.rst_solve.specs.Choices.{IsModel}
use Rattle.rst_solve.proofs.search.model_of.Given as goal

abbrev pub invariant-loop-bit : goal.invariant-loop-bit
invariant-loop-bit l = IsModel l.trail.lits l.bit l.bits
