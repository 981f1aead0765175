use Rattle.std.proofs.Common.{◌≡◌, ◌+◌, ◌≤◌, length}
use Rattle.rst_script.specs.Lines.{lines, said_lines}
use Rattle.rst_script.specs.Choices.{no_choices, choices_in}
use Rattle.rst_script.proofs.choices.read_choices.Given as goal

abbrev pub invariant-loop-line : goal.invariant-loop-line
invariant-loop-line l = record {
  chosen : choices_in l.it.choices (said_lines l.it.before (lines l.it.rest.now)) ≡ choices_in no_choices (said_lines l.before (lines l.text));
  few : l.it.before + length l.it.rest.now ≤ 1048576;
}

abbrev pub decreases-loop-line : goal.decreases-loop-line
decreases-loop-line l = length l.it.rest.now
