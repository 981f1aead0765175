-- The two lines in front of a script.
use Rattle.std.specs.Prelude.{ℕ, Bool, false, ◌&&◌, List, [], ◌∷◌, Option, Some, None, option_and_then, bytes_eq, codes, if◌then◌else◌}
use Rattle.rst_lex.specs.Words.{is_name}
use Rattle.rst_script.specs.Lines.{pair_of}

-- a version is the one byte 1 or 2
abbrev pub version_number : List ℕ → Option ℕ
version_number word = if bytes_eq word (codes "1") then Some 1 else (if bytes_eq word (codes "2") then Some 2 else None)

abbrev pub version_pair : List ℕ × List ℕ → Option ℕ
version_pair pair = if bytes_eq pair.0 (codes "reset-script") then version_number pair.1 else None

-- the version that the line `reset-script V` gives
abbrev pub version_of : List (List ℕ) → Option ℕ
version_of words = option_and_then version_pair (pair_of words)

abbrev pub is_noclock : List (List ℕ) → Bool
is_noclock [] = false
is_noclock (word ∷ []) = bytes_eq word (codes "noclock")
is_noclock (word ∷ other ∷ others) = false

abbrev pub clock_pair : List ℕ × List ℕ → Option (Option (List ℕ))
clock_pair pair = if bytes_eq pair.0 (codes "clock") && is_name pair.1 then Some (Some pair.1) else None

-- the clock's name that the line `clock NAME` gives, or none by the line `noclock`
abbrev pub clock_of : List (List ℕ) → Option (Option (List ℕ))
clock_of words = if is_noclock words then Some None else option_and_then clock_pair (pair_of words)
