-- Sums of the code end at the greatest number of their type, and bits are counted where they stand last.
use Rattle.std.specs.Prelude.{ℕ, ◌-◌, ◌^◌, min, nat_lt, Bool, not, cond, ◌&&◌, List, [], ◌∷◌}
use Rattle.rst_net.specs.declared.signal.Slice.{Slice}
use Rattle.rst_cycle.specs.Drivers.{slice_has, target_has}
use Rattle.rst_weight.specs.Counts.{places_below}

abbrev pub cut : ℕ → ℕ
cut n = min n (2 ^ 64 - 1)

-- whether a slice has a bit that none of some others has
abbrev pub is_fresh : Slice → List Slice → ℕ → Bool
is_fresh slice others place = slice_has slice.signal place slice && not (target_has others slice.signal place)

-- how many such bits it has
abbrev pub fresh : Slice → List Slice → ℕ
fresh slice others = places_below (is_fresh slice others) 64

-- how many the first slice has, if its signal is below a number
abbrev pub first_fresh : List Slice → ℕ → ℕ
first_fresh [] count = 0
first_fresh (slice ∷ others) count = cond (nat_lt slice.signal count) (fresh slice others) 0
