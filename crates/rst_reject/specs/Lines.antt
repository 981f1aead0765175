-- The line of a refusal: `rejected`, its code, and behind a space each the word of the file, the name and the number, where there is
-- one.
use Rattle.std.specs.Prelude.{ℕ, nat_eq, cond, List, [], ◌∷◌, ◌++◌, codes, Option, Some, None}
use Rattle.std.specs.Fmt.{decimal}
use Rattle.rst_reject.specs.declared.reject.Reject.{Reject}
use Rattle.rst_reject.specs.Codes.{code_name}

-- a word behind a space
abbrev pub spaced : List ℕ → List ℕ
spaced word = 32 ∷ word

-- the word of a file, where the refusal is that of a file
abbrev pub file_part : Option (List ℕ) → List ℕ
file_part None = []
file_part (Some word) = spaced word

-- a name, where there is one
abbrev pub name_part : List ℕ → List ℕ
name_part [] = []
name_part (b ∷ bs) = spaced (b ∷ bs)

-- a number, where there is one
abbrev pub number_part : ℕ → List ℕ
number_part number = cond (nat_eq number 0) [] (spaced (decimal number))

-- the line, with a newline
abbrev pub refusal_line : Option (List ℕ) → Reject → List ℕ
refusal_line word r =
    codes "rejected" ++ (spaced (code_name r.code) ++ (file_part word ++ (name_part r.name ++ (number_part r.number ++ 10 ∷ []))))
