use Rattle.rst_grammar.proofs.FormedModules.{module_formed, module_long}
use Rattle.rst_grammar.proofs.laws.well_formed.Goals as goal

pub returns-clause-formed : goal.returns-clause-formed
returns-clause-formed c = module_formed

pub returns-clause-few : goal.returns-clause-few
returns-clause-few c = module_long
