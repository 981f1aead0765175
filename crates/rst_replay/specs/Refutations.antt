-- Patterns that sign, and what refutes them.
use Rattle.std.specs.Prelude.{◌≡◌, Bool, List}
use Rattle.rst_value.specs.declared.tern.Tern.{Tern}
use Rattle.rst_gate.specs.Machine.{IsWord, SignsAcross, outs, after}
use Rattle.rst_gate.specs.Patterns.{IsFilling}
use Rattle.rst_pair.specs.Sides.{Sides, left_machine, right_machine, IsPair}

-- every filling of the pattern aligns every two power-up states; of one design this says that the pattern signs
abbrev pub AreSigned : Sides → List (List Tern) → Type 0
AreSigned p pattern = (word : List (List Bool)) → IsFilling pattern word → SignsAcross (left_machine p) (right_machine p) word

-- behind a filling of the pattern the word tells two power-up states apart by their outputs
pub record IsRefutedBy (p : Sides) (pattern : List (List Tern)) (fill : List (List Bool)) (a b : List Bool) (word : List (List Bool)) : Type 0 where
  pub pair : IsPair p a b
  pub fills : IsFilling pattern fill
  pub is_word : IsWord (left_machine p) word
  pub apart : outs (left_machine p) (after (left_machine p) a fill) word ≡ outs (right_machine p) (after (right_machine p) b fill) word → ⊥
