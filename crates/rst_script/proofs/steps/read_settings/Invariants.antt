use Rattle.std.proofs.Common.{◌≡◌, [], length}
use Rattle.rst_script.specs.Lines.{words}
use Rattle.rst_script.specs.Steps.{settings_in}
use Rattle.rst_script.proofs.steps.read_settings.Given as goal

abbrev pub invariant-loop-word : goal.invariant-loop-word
invariant-loop-word l = settings_in l.version l.values.items (words l.rest) ≡ settings_in l.version [] (words l.line)

abbrev pub decreases-loop-word : goal.decreases-loop-word
decreases-loop-word l = length l.rest
