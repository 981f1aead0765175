use Rattle.rst_grammar.proofs.TakesTargets.{one_target}
use Rattle.rst_grammar.proofs.laws.one_target.Goals as goal

pub returns : goal.returns
returns c = one_target
