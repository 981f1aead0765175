use Rattle.std.proofs.Common.{subst, sym}
use Rattle.rst_clause.specs.Literals.{AreLiterals}
use Rattle.rst_pose.proofs.land.turn.Goals as goal

pub both_sides-requires-clause-inputs : goal.both_sides-requires-clause-inputs
both_sides-requires-clause-inputs c =
    subst (AreLiterals c.args.dom.now.clauses.vars) (sym c.as_slice.ensures.value)
    (c.in_ok-inputs.ensures.held c.args.dom.now.clauses.vars c.requires.before c.requires.low)
