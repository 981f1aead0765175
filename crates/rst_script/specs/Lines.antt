-- The lines of a text, and the words of a line.
use Rattle.std.specs.Prelude.{ℕ, ◌+◌, ◌==◌, Bool, true, false, ◌||◌, List, [], ◌∷◌, Option, Some, None, filter, if◌then◌else◌}
use Prim.Native.Char.{code}

-- the first of the texts with a byte in front, or a text of that byte where there is none
abbrev pub begun : ℕ → List (List ℕ) → List (List ℕ)
begun b [] = (b ∷ []) ∷ []
begun b (first ∷ others) = (b ∷ first) ∷ others

abbrev pub is_newline : ℕ → Bool
is_newline b = b == code "\n"

-- The lines of a text: each ends at a newline. What stands behind the last newline is a line too where it isn't empty.
abbrev pub lines : List ℕ → List (List ℕ)
lines [] = []
lines (b ∷ bs) = if is_newline b then [] ∷ lines bs else begun b (lines bs)

-- spaces and tabs part the words of a line
abbrev pub is_gap : ℕ → Bool
is_gap b = (b == code " ") || (b == code "\t")

-- what stands before the first gap, between two, and behind the last
abbrev pub parts : List ℕ → List (List ℕ)
parts [] = [] ∷ []
parts (b ∷ bs) = if is_gap b then [] ∷ parts bs else begun b (parts bs)

abbrev pub is_filled : List ℕ → Bool
is_filled [] = false
is_filled (b ∷ bs) = true

abbrev pub words : List ℕ → List (List ℕ)
words line = filter is_filled (parts line)

-- one carriage return at a line's end is dropped
abbrev pub without_return : List ℕ → List ℕ
without_return [] = []
without_return (b ∷ []) = if b == code "\r" then [] else b ∷ []
without_return (b ∷ c ∷ bs) = b ∷ without_return (c ∷ bs)

-- a comment is a line whose first byte is #
abbrev pub is_comment : List ℕ → Bool
is_comment [] = false
is_comment (b ∷ bs) = b == code "#"

-- the words that a line says: none where it is empty, blank or a comment
abbrev pub line_words : List ℕ → List (List ℕ)
line_words line = if is_comment line then [] else words (without_return line)

-- a line that says something: its number, counted from 1, and its words
pub record Line : Type 0 where
  pub number : ℕ
  pub words : List (List ℕ)

abbrev pub said_line : ℕ → List (List ℕ) → List Line → List Line
said_line number [] others = others
said_line number (word ∷ words) others = record { number = number; words = word ∷ words } ∷ others

-- the lines that say something, where so many stand before the first
abbrev pub said_lines : ℕ → List (List ℕ) → List Line
said_lines before [] = []
said_lines before (line ∷ others) = said_line (before + 1) (line_words line) (said_lines (before + 1) others)

-- the words of a line that has two
abbrev pub pair_of : List (List ℕ) → Option (List ℕ × List ℕ)
pair_of [] = None
pair_of (a ∷ []) = None
pair_of (a ∷ b ∷ []) = Some (a, b)
pair_of (a ∷ b ∷ c ∷ others) = None
