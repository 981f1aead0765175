use Rattle.std.proofs.Common.{◌≡◌, ◌≤◌, map, take, drop}
use Rattle.rst_script.specs.Scripts.{plain_step}
use Rattle.rst_script.specs.Fitting.{first_fault, pattern_of}
use Rattle.rst_script.proofs.fitting.fit_script.Given as goal

abbrev pub invariant-loop-step : goal.invariant-loop-step
invariant-loop-step l = record {
  fault : first_fault l.ports l.free (map plain_step (drop l.step-index l.script.steps.items)) ≡ first_fault l.ports 0 (map plain_step l.script.steps.items);
  made : l.pattern ≡ pattern_of l.ports (map plain_step (take l.step-index l.script.steps.items));
  few : l.free ≤ 1024;
}
