-- Operators and punctuation.
use Rattle.std.specs.Prelude.{ℕ, List, [], ◌∷◌, IsTrue, codes}
use Rattle.rst_lex.specs.Words.{is_listed}

-- the marks of the profile, of one, two and three characters
abbrev pub marks : List (List ℕ)
marks = codes "(" ∷ codes ")" ∷ codes "[" ∷ codes "]" ∷ codes "{" ∷ codes "}" ∷ codes "," ∷ codes ";" ∷ codes ":" ∷ codes "." ∷ codes "#" ∷ codes "@" ∷ codes "="
    ∷ codes "?" ∷ codes "+" ∷ codes "-" ∷ codes "!" ∷ codes "~" ∷ codes "&" ∷ codes "|" ∷ codes "^" ∷ codes "*" ∷ codes "/" ∷ codes "%" ∷ codes "<" ∷ codes ">"
    ∷ codes "<<" ∷ codes ">>" ∷ codes "<=" ∷ codes ">=" ∷ codes "==" ∷ codes "!=" ∷ codes "&&" ∷ codes "||" ∷ codes "~&" ∷ codes "~|" ∷ codes "~^" ∷ codes "^~" ∷ codes "**"
    ∷ codes "<<<" ∷ codes ">>>" ∷ codes "===" ∷ codes "!==" ∷ []

abbrev pub IsMark : List ℕ → Type 0
IsMark bs = IsTrue (is_listed marks bs)
