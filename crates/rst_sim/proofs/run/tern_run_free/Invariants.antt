use Rattle.std.proofs.Common.{◌≡◌, ◌++◌, length, drop}
use Rattle.rst_gate.specs.GateMachines.{terns_of}
use Rattle.rst_sim.specs.Trails.{pattern_trail}
use Rattle.rst_sim.proofs.run.tern_run_free.Given as goal

abbrev pub invariant-loop-input : goal.invariant-loop-input
invariant-loop-input l = record {
  is_state : length l.current ≡ l.gates.states;
  so_far : pattern_trail (terns_of l.gates) l.start l.inputs
      ≡ l.states.items ++ pattern_trail (terns_of l.gates) l.current (drop l.input-index l.inputs);
}
