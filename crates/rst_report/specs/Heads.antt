-- What a report says of the design itself.
use Rattle.std.specs.Prelude.{ℕ, ◌+◌, ◌≤◌, List, [], ◌∷◌}
use Rattle.rst_outside.specs.declared.names.PortBits.{PortBits}
use Rattle.rst_report.specs.declared.head.Head.{Head}

-- the number of bits of the ports together
abbrev pub width_sum : List PortBits → ℕ
width_sum [] = 0
width_sum (port ∷ ports) = port.width + width_sum ports

-- the design has no more bits than the language allows
pub record KeepsLimits (head : Head) : Type 0 where
  pub registers : width_sum head.registers ≤ 512
  pub inputs : width_sum head.inputs ≤ 256
  pub outputs : width_sum head.outputs ≤ 256
