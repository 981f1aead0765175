use Rattle.std.proofs.Common.{subst}
use Rattle.std.specs.List.{Contains}
use Rattle.rst_clause.proofs.Members.{absent}
use Rattle.rst_watch.proofs.learn.last.Goals as goal

pub returns-else-has : goal.returns-else-has
returns-else-has c = record {
  has = c.requires.has;
  others = c.requires.is_false.others;
  not_there = c.requires.is_false.none c.args.lit c.requires.has;
  not_opposite = subst (λ z. Contains c.args.trail.now.lits z → ⊥) c.opposite.ensures (absent _ _ c.has.ensures.value c.if-has.false);
}
