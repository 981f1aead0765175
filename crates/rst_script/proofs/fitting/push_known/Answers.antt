use Rattle.std.proofs.Common.{◌-◌, ◌++◌, ap, ◌∙◌, arith}
use Rattle.rst_script.specs.Fitting.{known_places}
use Rattle.rst_script.proofs.FitFacts.{known_more}
use Rattle.rst_script.proofs.fitting.push_known.Goals as goal

pub loop-left-preserved : goal.loop-left-preserved
loop-left-preserved c =
    ap (λ cube. cube ++ known_places (c.loop-left.left - 1) c.args.value) c.in_ok-push.ensures.ok
    ∙ (known_more c.loop-left.cube c.loop-left.left c.args.value c.place_at.result (omega arith) c.place_at.ensures ∙ c.loop-left.invariant)
