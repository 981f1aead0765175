use Rattle.std.proofs.Common.{◌≡◌, ◌++◌, length, drop}
use Rattle.rst_gate.specs.Machine.{outs, after}
use Rattle.rst_gate.specs.GateMachines.{machine_of}
use Rattle.rst_sim.proofs.run.two_run.Given as goal

abbrev pub invariant-loop-input : goal.invariant-loop-input
invariant-loop-input l = record {
  is_state : length l.current ≡ l.gates.states;
  outs_so_far : outs (machine_of l.gates) l.state l.inputs
      ≡ l.shown.items ++ outs (machine_of l.gates) l.current (drop l.input-index l.inputs);
  after_rest : after (machine_of l.gates) l.state l.inputs ≡ after (machine_of l.gates) l.current (drop l.input-index l.inputs);
}
