use Rattle.rst_grammar.proofs.Takes.{one_tree}
use Rattle.rst_grammar.proofs.laws.one_tree.Goals as goal

pub returns : goal.returns
returns c = one_tree
