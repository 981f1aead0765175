use Rattle.rst_clause.proofs.Apart.{apart_few}
use Rattle.rst_clause.proofs.laws.disjoint_paths_are_few.Goals as goal

pub returns : goal.returns
returns c = apart_few
