-- The first name of joined lists of names.
use Rattle.std.proofs.Common.{◌≡◌, ℕ, ◌+◌, List, [], ◌∷◌, ◌++◌, map, drop, Option, Some, None, slice_get, sym, ap, ◌∙◌}
use Rattle.std.specs.List.{flat_map}
use Rattle.rst_names.specs.Faults.{first}
use Rattle.rst_names.proofs.Turns.{at}
use Rattle.rst_names.proofs.RowLemmas.{first-none_append}

module _ {X : Type 0} where
  -- one of the front
  pub first_in_front : (a b : List X) (x : X) → Some x ≡ first a → Some x ≡ first (a ++ b)
  first_in_front [] b x h = cc
  first_in_front (y ∷ a) b x h = h

  -- none in the front
  pub first_behind : (o : Option X) (a b : List X) → None ≡ first a → o ≡ first b → o ≡ first (a ++ b)
  first_behind o a b none h = h ∙ sym (first-none_append a b (sym none))

-- One turn of a loop that looks for the first in what a list shows: what is left has it.
module _ {X Y Z : Type 0} (view : X → Y) (row : Y → List Z) (xs : List X) (i : ℕ) (x : X) (is : slice_get xs i ≡ Some x) where
  opened : map view (drop i xs) ≡ view x ∷ map view (drop (i + 1) xs)
  opened = ap (map view) (at xs i x is).back

  pub first_found : (z : Z) → first (flat_map row (map view (drop i xs))) ≡ first (flat_map row (map view xs)) → Some z ≡ first (row (view x))
      → Some z ≡ first (flat_map row (map view xs))
  first_found z left h =
      first_in_front (row (view x)) (flat_map row (map view (drop (i + 1) xs))) z h ∙ ap (λ l. first (flat_map row l)) (sym opened) ∙ left

  pub first_later : first (flat_map row (map view (drop i xs))) ≡ first (flat_map row (map view xs)) → None ≡ first (row (view x))
      → first (flat_map row (map view (drop (i + 1) xs))) ≡ first (flat_map row (map view xs))
  first_later left none =
      sym (ap (λ l. first (flat_map row l)) opened ∙ first-none_append (row (view x)) (flat_map row (map view (drop (i + 1) xs))) (sym none)) ∙ left

pub ruleset firsts = (first_in_front, first_behind)
