-- Lists laid one after another in one list, told apart by the places where they end.
use Rattle.std.specs.Prelude.{◌≡◌, ℕ, zero, suc, ◌≤◌, ℤ, List, [], ◌∷◌, slice_range, slice_index_or}

-- the lists that end at these places, the first from `start`
abbrev pub parts : ℕ → List ℕ → List ℤ → List (List ℤ)
parts start [] all = []
parts start (e ∷ ends) all = slice_range all start e ∷ parts e ends all

-- the places rise from `start` and end at n
abbrev pub AreEnds : ℕ → List ℕ → ℕ → Type 0
AreEnds start [] n = start ≡ n
AreEnds start (e ∷ ends) n = (start ≤ e) × AreEnds e ends n

-- where the list at the place begins, of those that begin at `start`
abbrev pub begin_of : ℕ → List ℕ → ℕ → ℕ
begin_of start ends zero = start
begin_of start ends (suc i) = slice_index_or ends i 0
