use Rattle.std.proofs.Common.{drop, map}
use Rattle.rst_net.specs.Units.{plain_signal}
use Rattle.rst_reset_gates.proofs.NodeLemmas.{WordsLeft}
use Rattle.rst_reset_gates.proofs.start.start_wires.Given as goal

abbrev pub invariant-loop-signal : goal.invariant-loop-signal
invariant-loop-signal l = WordsLeft (map plain_signal l.signals) l.inputs l.wires l.input l.state (map plain_signal (drop l.signal-index l.signals))
