-- The flat design of a netlist: that of the source, its units in the order in which they are settled.
use Rattle.std.specs.Prelude.{ℕ, List, map}
use Rattle.rst_net.specs.Units.{PlainFlat, plain_signal, plain_driver, plain_process}
use Rattle.rst_flow.specs.declared.net.Net.{Net}
use Rattle.rst_flow.specs.Edges.{picks}

abbrev pub ordered : PlainFlat → List ℕ → PlainFlat
ordered flat order = record {
  signals = flat.signals;
  units = picks flat.units order;
  clocked = flat.clocked;
  outputs = flat.outputs;
}

-- the same of a netlist in memory
abbrev pub net_design : Net → PlainFlat
net_design net = record {
  signals = map plain_signal net.signals.items;
  units = map plain_driver net.units.items;
  clocked = map plain_process net.clocked.items;
  outputs = net.outputs.items;
}
