use Rattle.std.proofs.Common.{◌≡◌, ◌++◌, true, map, drop}
use Rattle.rst_gate.specs.SharedGates.{turned}
use Rattle.rst_word_gates.proofs.bits.invert.Given as goal

abbrev pub invariant-loop-i : goal.invariant-loop-i
invariant-loop-i l = map (turned true) l.word ≡ l.bits.items ++ map (turned true) (drop l.i l.word)
