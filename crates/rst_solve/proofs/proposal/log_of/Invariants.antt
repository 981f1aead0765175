use Rattle.rst_solve.specs.Choices.{AreSome}
use Rattle.rst_solve.proofs.proposal.log_of.Given as goal

abbrev pub invariant-loop-i : goal.invariant-loop-i
invariant-loop-i l = AreSome l.log
