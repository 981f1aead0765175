use Rattle.rst_gate.proofs.Relations.{apart-never}
use Rattle.rst_gate.proofs.laws.pairs_kept_apart.Goals as goal

pub returns : goal.returns
returns g c = λ l r ports left right. apart-never l r ports left right g.R.StateRelation.holds
