use Rattle.std.proofs.Common.{map}
use Rattle.rst_net.specs.Units.{plain_signal}
use Rattle.rst_reset_gates.specs.Tables.{reset_at}
use Rattle.rst_reset_gates.proofs.Registers.{WordsLeft}
use Rattle.rst_reset_gates.proofs.resets.reset_all.Given as goal

abbrev pub invariant-loop-k : goal.invariant-loop-k
invariant-loop-k l = WordsLeft l.start (reset_at l.table) l.fn.gates (map plain_signal l.signals) l.gates l.wires l.k
