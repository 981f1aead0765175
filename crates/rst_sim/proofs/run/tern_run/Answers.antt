use Rattle.rst_gate.specs.GateMachines.{machine_of}
use Rattle.rst_sim.proofs.Turns.{word-pattern}
use Rattle.rst_sim.proofs.run.tern_run.Goals as goal

pub tern_run_free-requires-clause-pattern : goal.tern_run_free-requires-clause-pattern
tern_run_free-requires-clause-pattern c =
    rw (c.in_ok-pattern.ensures, c.as_slice.ensures) (word-pattern (machine_of c.args.gates.now) c.args.inputs.now c.requires.word)
