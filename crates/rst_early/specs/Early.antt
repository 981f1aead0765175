-- What refutes a pattern of one design.
use Rattle.std.specs.Prelude.{List}
use Rattle.rst_value.specs.declared.tern.Tern.{Tern}
use Rattle.rst_gate.specs.Circuits.{Circuit}
use Rattle.rst_pair.specs.Sides.{Sides}
use Rattle.rst_replay.specs.Refutations.{IsRefutedBy}
use Rattle.rst_early.specs.declared.apart.Apart.{Apart}

-- both sides are the same gates
abbrev pub alone : Circuit → Sides
alone c = record { left = c; right = c }

-- behind its filling of the pattern the word tells its two power-up states apart
abbrev pub Refutes : Circuit → List (List Tern) → Apart → Type 0
Refutes c pattern it = IsRefutedBy (alone c) pattern it.seq it.a it.b it.word
