-- Lines, and numbers behind a word.
use Rattle.std.specs.Prelude.{ℕ, List, [], ◌∷◌, ◌++◌}
use Rattle.std.specs.Fmt.{decimal}

-- a line: its bytes and a newline
abbrev pub line : List ℕ → List ℕ
line bytes = bytes ++ 10 ∷ []

-- a word, a space and a number in decimal digits
abbrev pub counted : List ℕ → ℕ → List ℕ
counted word number = word ++ 32 ∷ decimal number
