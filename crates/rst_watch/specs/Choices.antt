-- What a clause is on a trail, and what one more clause does.
use Rattle.std.specs.Prelude.{◌≡◌, ◌≢◌, ℤ, Bool, true, false, List, [], ◌∷◌, ◌++◌}
use Rattle.std.specs.List.{Contains}
use Rattle.rst_clause.specs.Trails.{Trail', Grows, AllFalse, IsUnit}
use Rattle.rst_watch.specs.Looks.{NotFalse, HasTrue}
use Rattle.rst_watch.specs.declared.learn.Choice.{Choice}
use Rattle.rst_watch.specs.declared.learn.Choice.TheVariants.{False, Unit, True, Two}

-- two different literals of the clause that aren't false
pub record AreTwo (t clause : List ℤ) (first second : ℤ) : Type 0 where
  pub differ : first ≢ second
  pub has_first : Contains clause first
  pub has_second : Contains clause second
  pub first_not_false : NotFalse t first
  pub second_not_false : NotFalse t second

abbrev pub Chooses : List ℤ → List ℤ → Choice → Type 0
Chooses t clause False = AllFalse t clause
Chooses t clause (Unit l) = IsUnit t clause l
Chooses t clause (True l) = HasTrue t clause × Contains clause l
Chooses t clause (Two first second) = AreTwo t clause first second

-- the clause is false and all is as it was, or it is one more, and what it implies stands
abbrev pub Learns : List (List ℤ) → List (List ℤ) → Trail' → Trail' → List ℤ → Bool → Type 0
Learns old new from to clause true = AllFalse from.lits clause × (new ≡ old) × (to ≡ from)
Learns old new from to clause false = (new ≡ old ++ clause ∷ []) × Grows new from to
