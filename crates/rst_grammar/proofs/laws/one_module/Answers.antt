use Rattle.rst_grammar.proofs.ExactModules.{one_module}
use Rattle.rst_grammar.proofs.laws.one_module.Goals as goal

pub returns : goal.returns
returns c = one_module
