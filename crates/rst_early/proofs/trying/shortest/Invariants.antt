use Rattle.rst_early.specs.Early.{Refutes}
use Rattle.rst_early.proofs.trying.shortest.Given as goal

abbrev pub invariant-loop : goal.invariant-loop
invariant-loop l = Refutes l.gates l.pattern l.best
