-- The number that bits spell in base two, lowest first.
use Rattle.std.specs.Prelude.{ℕ, zero, suc, ◌+◌, ◌*◌, ◌/◌, ◌%◌, Bool, List, [], ◌∷◌, cond, nat_eq}

abbrev pub digit : Bool → ℕ
digit b = cond b 1 0

abbrev pub number : List Bool → ℕ
number [] = 0
number (b ∷ bs) = digit b + 2 * number bs

-- the lowest w bits of a number
abbrev pub bits_of : ℕ → ℕ → List Bool
bits_of zero n = []
bits_of (suc w) n = nat_eq (n % 2) 1 ∷ bits_of w (n / 2)
