-- The netlist of a flat design that passes: the same signals, clocked blocks and outputs, and the units in their order.
use Rattle.std.specs.Prelude.{◌≡◌, ℕ, List, map}
use Rattle.rst_net.specs.Units.{PlainFlat, plain_signal, plain_driver, plain_process}
use Rattle.rst_flow.specs.declared.net.Net.{Net}
use Rattle.rst_flow.specs.Edges.{picks}
use Rattle.rst_flow.specs.Flows.{Passes}

pub record IsNet (flat : PlainFlat) (net : Net) : Type 0 where
  pub order : List ℕ
  pub passes : Passes flat order
  pub signals : map plain_signal net.signals.items ≡ flat.signals
  pub units : map plain_driver net.units.items ≡ picks flat.units order
  pub clocked : map plain_process net.clocked.items ≡ flat.clocked
  pub outputs : net.outputs.items ≡ flat.outputs
