use Rattle.std.proofs.Common.{◌≡◌, ◌-◌, map, drop}
use Rattle.rst_net.specs.Units.{plain_signal, plain_process}
use Rattle.rst_reset_gates.specs.NodeWords.{blank_words}
use Rattle.rst_reset_gates.specs.Tables.{IsTable}
use Rattle.rst_reset_gates.proofs.resets.resets_of.Given as goal

abbrev pub invariant-loop-k : goal.invariant-loop-k
invariant-loop-k l = record {
  same : l.wires ≡ blank_words (map plain_signal l.signals);
  table : IsTable (map plain_signal l.signals) (map plain_process (drop (l.count - l.k) l.processes)) l.table;
}
