use Rattle.rst_gate.proofs.Relations.{inductive-same, same-inductive}
use Rattle.rst_gate.proofs.laws.inductive_relations.Goals as goal

pub returns : goal.returns
returns g c = record {
  same = λ l r ports left right. inductive-same l r ports left right g.R.StateRelation.holds;
  kept = same-inductive;
}
