-- The three-valued states along a pattern.
use Rattle.std.specs.Prelude.{Bool, List, [], ◌∷◌}
use Rattle.rst_value.specs.declared.tern.Tern.{Tern}
use Rattle.rst_gate.specs.Patterns.{known_pattern}
use Rattle.rst_gate.specs.TernMachine.{TernMachine}

-- the start, and the state behind each cycle
abbrev pub pattern_trail : TernMachine → List Tern → List (List Tern) → List (List Tern)
pattern_trail t state [] = state ∷ []
pattern_trail t state (places ∷ pattern) = state ∷ pattern_trail t (t.step state places) pattern

-- along a word of known inputs, the pattern without X
abbrev pub tern_trail : TernMachine → List Tern → List (List Bool) → List (List Tern)
tern_trail t state word = pattern_trail t state (known_pattern word)
