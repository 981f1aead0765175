use Rattle.std.proofs.Common.{◌∙◌, false}
use Rattle.rst_width.specs.Sizing.{sized}
use Rattle.rst_width.specs.Targets.{target_expr, IsPlace}
use Rattle.rst_width.proofs.AnswersFit.{of_ok}
use Rattle.rst_width.proofs.Outcomes.{no_context}
use Rattle.rst_width.proofs.TargetSizing.{target-place}
use Rattle.rst_width.proofs.laws.targets_are_places.Goals as goal

pub returns : goal.returns
returns c = λ names target t is. of_ok IsPlace _ t (no_context (sized false names (target_expr target)) ∙ is) (target-place names target)
