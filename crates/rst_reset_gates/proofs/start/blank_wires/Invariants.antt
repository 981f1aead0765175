use Rattle.std.proofs.Common.{◌≡◌, ◌++◌, drop, map}
use Rattle.rst_net.specs.Units.{plain_signal}
use Rattle.rst_reset_gates.specs.NodeWords.{blank_words}
use Rattle.rst_reset_gates.proofs.start.blank_wires.Given as goal

abbrev pub invariant-loop-signal : goal.invariant-loop-signal
invariant-loop-signal l = l.wires ++ blank_words (map plain_signal (drop l.signal-index l.signals)) ≡ blank_words (map plain_signal l.signals)
