use Rattle.std.proofs.Common.{◌≡◌, take}
use Rattle.rst_gate.specs.Patterns.{known_pattern}
use Rattle.rst_gate.proofs.pattern.known_pattern.Given as goal

abbrev pub invariant-loop-input : goal.invariant-loop-input
invariant-loop-input l = l.pattern ≡ known_pattern (take l.input-index l.word)
