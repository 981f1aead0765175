-- Machines of the same sizes that do the same on all states and inputs of the right lengths.
use Rattle.std.specs.Prelude.{◌≡◌}
use Rattle.rst_gate.specs.Machine.{Machine}
use Rattle.rst_settled.specs.Settling.{DoTheSame}

pub record AreAlike (m n : Machine) : Type 0 where
  pub registers : m.registers ≡ n.registers
  pub inputs : m.inputs ≡ n.inputs
  pub outputs : m.outputs ≡ n.outputs
  pub same : DoTheSame m n
