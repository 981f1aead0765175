-- The work of a search for a pair that lands.
use Rattle.std.specs.Prelude.{◌≡◌, ℕ, ◌<◌, ◌≤◌, Bool, false, List, ◌++◌, length, map, slice_index_or}
use Rattle.rst_value.specs.declared.tern.Tern.{Tern}
use Rattle.rst_pair.specs.declared.query.Kind.TheVariants as kind
use Rattle.rst_pair.specs.declared.journal.Entry.{Entry}
use Rattle.rst_pair.specs.declared.journal.Entry.TheVariants.{Conflict}
use Rattle.rst_pair.specs.Sides.{Sides}
use Rattle.rst_pair.specs.Fronts.{Front'}
use Rattle.rst_pose.specs.Works.{Search, AreWork, blocked_of, phase}

-- a journal of `check`, which asks about the pattern
abbrev pub checking : Sides → List Bool → List (List Tern) → ℕ → Search
checking p equal pattern bound = record { sides = p; finds = false; equal = equal; pattern = pattern; bound = bound }

-- no entry of landing stands yet
abbrev pub HasNotLanded : List Entry → Type 0
HasNotLanded entries = (i : ℕ) (d : Entry) → i < length entries → phase (slice_index_or entries i d) < 3

-- a conflict of landing for each path
abbrev pub land_conflicts : List (List Tern) → List Entry
land_conflicts paths = map (λ path. Conflict kind.Land path) paths

-- The entries are conflicts of landing, at most so many. They are work behind any work of `check` whose blocked hops are those
-- of the front, and in which no entry of landing stands yet.
pub record IsLandWork (p : Sides) (f : Front') (pattern : List (List Tern)) (left : ℕ) (entries : List Entry) : Type 0 where
  pub paths : List (List Tern)
  pub conflicts : entries ≡ land_conflicts paths
  pub few : length entries ≤ left
  pub work : (earlier : List Entry) (bound : ℕ) → AreWork (checking p f.equal pattern bound) earlier → blocked_of earlier ≡ f.blocked
      → HasNotLanded earlier → AreWork (checking p f.equal pattern bound) (earlier ++ entries)
