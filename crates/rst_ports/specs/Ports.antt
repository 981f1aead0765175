-- The ports and registers of a flat design, with their names and widths.
use Rattle.std.specs.Prelude.{ℕ, cond, List, [], ◌∷◌, map, slice_get, Option, None, Some}
use Rattle.rst_outside.specs.declared.names.PortBits.{PortBits}
use Rattle.rst_net.specs.declared.signal.Role.{Role}
use Rattle.rst_net.specs.Units.{PlainSignal}
use Rattle.rst_cycle.specs.Signals.{same_role}

abbrev pub port_of : PlainSignal → PortBits
port_of s = record { name = s.name; width = s.extent.width }

-- the signals that have a role, in flat order: the inputs without the clock, or the registers
abbrev pub ports_with : Role → List PlainSignal → List PortBits
ports_with role [] = []
ports_with role (s ∷ signals) = cond (same_role s.role role) (port_of s ∷ ports_with role signals) (ports_with role signals)

-- a number without a signal has no name and no bit
abbrev pub port_in : Option PlainSignal → PortBits
port_in None = record { name = []; width = 0 }
port_in (Some s) = port_of s

abbrev pub port_at : List PlainSignal → ℕ → PortBits
port_at signals number = port_in (slice_get signals number)

-- the signals with these numbers
abbrev pub output_ports : List PlainSignal → List ℕ → List PortBits
output_ports signals numbers = map (port_at signals) numbers
