-- Lines of a text.
use Rattle.std.specs.Prelude.{ℕ, ◌==◌, List, take, count_by}
use Prim.Native.Char.{code}

-- how many newlines stand before this place
abbrev pub newlines_before : List ℕ → ℕ → ℕ
newlines_before text at = count_by (λ b. b == code "\n") (take at text)
