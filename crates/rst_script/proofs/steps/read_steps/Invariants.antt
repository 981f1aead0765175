use Rattle.std.proofs.Common.{◌≡◌, ◌+◌, ◌≤◌, [], map, length}
use Rattle.rst_script.specs.Lines.{lines, said_lines}
use Rattle.rst_script.specs.Scripts.{plain_step}
use Rattle.rst_script.specs.Steps.{steps_in}
use Rattle.rst_script.proofs.steps.read_steps.Given as goal

abbrev pub invariant-loop-line : goal.invariant-loop-line
invariant-loop-line l = record {
  read : steps_in l.version l.cycles (map plain_step l.steps.items) (said_lines l.number (lines l.rest)) ≡ steps_in l.version 0 [] (said_lines l.before (lines l.text));
  few : l.number + length l.rest ≤ 1048576;
  cycles : l.cycles ≤ 128;
}

abbrev pub decreases-loop-line : goal.decreases-loop-line
decreases-loop-line l = length l.rest
