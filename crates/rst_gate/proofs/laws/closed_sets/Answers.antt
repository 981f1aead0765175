use Rattle.rst_gate.proofs.Closed.{closed-agree}
use Rattle.rst_gate.proofs.laws.closed_sets.Goals as goal

pub returns : goal.returns
returns c = closed-agree
