use Rattle.std.proofs.Common.{◌∙◌, refl, true, length}
use Rattle.rst_solve.proofs.Steps.{lifted_turned}
use Rattle.rst_solve.proofs.climb.turn.Goals as goal

pub returns-clause-below : goal.returns-clause-below
returns-clause-below c =
    lifted_turned _ _ _ c.args.t.now c.spread.new.t c.args.level (record { bit = c.args.level.bit; value = true; floor = length c.args.t.now.trail.lits })
    c.requires.lifted c.requires.first refl refl c.in_ok-complete.ensures.at (c.in_ok-complete.ensures.levels ∙ c.in_ok-decide.ensures.levels)
    (c.in_ok-complete.ensures.log ∙ c.in_ok-decide.ensures.log) (c.in_ok-complete.ensures.paths ∙ c.in_ok-decide.ensures.paths)

pub returns-clause-known : goal.returns-clause-known
returns-clause-known c = c.in_ok-complete.ensures.known _ c.in_ok-decide.ensures.known
