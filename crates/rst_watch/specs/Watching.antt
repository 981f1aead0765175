-- Two watched literals a clause: what holds of them while literals come and go.
use Rattle.std.specs.Prelude.{◌≡◌, ◌≢◌, ℕ, ◌+◌, ◌*◌, ◌<◌, ◌≤◌, ◌^◌, ◌⊎◌, ℤ, pos, List, [], ◌∷◌, length, take, slice_index_or}
use Rattle.std.specs.List.{Contains}
use Rattle.rst_clause.specs.Literals.{AreClauses}
use Rattle.rst_clause.specs.Trails.{place_of}
use Rattle.rst_clause.specs.Queue.{IsFalseAt}
use Rattle.rst_watch.specs.Looks.{NotFalse, HasTrue}
use Rattle.rst_watch.specs.declared.state.Watch.{Watch}
use Rattle.rst_watch.specs.declared.state.State.{State}
use Rattle.rst_watch.specs.declared.visit.Visited.{Visited}
use Rattle.rst_watch.specs.declared.visit.Visited.TheVariants.{Kept, Moved, False}

-- A point in the search is a trail and its literals that were propagated: the one that stands, of which n were
-- propagated, and the ones that come back where levels end, of which all were.
abbrev pub IsPoint : List ℤ → ℕ → List ℕ → List ℤ → List ℤ → Type 0
IsPoint t n floors s p = ((s ≡ t) × (p ≡ take n t)) ⊎ ((m : ℕ) × Contains floors m × (s ≡ take m t) × (p ≡ take m t))

-- each floor lies at or below the one behind it
abbrev pub AreFloors : List ℕ → ℕ → Type 0
AreFloors [] n = Unit {0}
AreFloors (m ∷ floors) n = (m ≤ n) × AreFloors floors m

-- the number stands in the literal's list
abbrev pub IsNoted : List (List ℕ) → ℤ → ℕ → Type 0
IsNoted lists l number = Contains (slice_index_or lists (place_of l) []) number

-- two different literals, each with the clause's number in its list
pub record IsPair (lists : List (List ℕ)) (number : ℕ) (w : Watch) : Type 0 where
  pub differ : w.first ≢ w.second
  pub first : IsNoted lists w.first number
  pub second : IsNoted lists w.second number

-- A clause is guarded by literals of its own: they watch it, or a literal of it stands at each point. And at each
-- point a literal of it stands, or neither watched one was propagated as false.
pub record IsGuarded (At : List ℤ → List ℤ → Type 0) (lists : List (List ℕ)) (clause : List ℤ) (number : ℕ) (w : Watch) : Type 0 where
  pub has_first : Contains clause w.first
  pub has_second : Contains clause w.second
  pub pair : IsPair lists number w ⊎ ((s p : List ℤ) → At s p → HasTrue s clause)
  pub fine : (s p : List ℤ) → At s p → HasTrue s clause ⊎ (NotFalse p w.first × NotFalse p w.second)

abbrev pub no_watch : Watch
no_watch = record { first = pos 0; second = pos 0 }

-- the watched literals of the clause with the number
abbrev pub watch_of : State → ℕ → Watch
watch_of s i = slice_index_or s.pairs.items i no_watch

-- each clause is guarded
pub record IsWatching (s : State) : Type 0 where
  pub few : s.trail.vars < 2 ^ 31
  pub in_range : AreClauses s.trail.vars s.store
  pub slots : length s.lists.items ≡ 2 * s.trail.vars + 2
  pub pairs : length s.pairs.items ≡ length s.store
  pub done : s.done ≤ length s.trail.lits
  pub floors : AreFloors s.floors (length s.trail.lits)
  pub guards : (i : ℕ) → i < length s.store
      → IsGuarded (IsPoint s.trail.lits s.done s.floors) s.lists.items (slice_index_or s.store i []) i (watch_of s i)

-- the same clauses, levels and propagated literals, over the same variables
pub record IsSame (old new : State) : Type 0 where
  pub store : new.store ≡ old.store
  pub done : new.done ≡ old.done
  pub floors : new.floors ≡ old.floors
  pub vars : new.trail.vars ≡ old.trail.vars

-- the two literals in one of both orders
abbrev pub IsOf : Watch → ℤ → ℤ → Type 0
IsOf w l other = ((w.first ≡ l) × (w.second ≡ other)) ⊎ ((w.first ≡ other) × (w.second ≡ l))

-- one of the watched literals
abbrev pub Watches : Watch → ℤ → Type 0
Watches w l = (w.first ≡ l) ⊎ (w.second ≡ l)

-- A visit of a clause of which this literal became false: it stays, and holds where it is watched; or another
-- literal is watched in its place; or the clause is false.
abbrev pub Visits : State → State → ℕ → ℤ → Visited → Type 0
Visits old new i l Kept =
    (new.lists ≡ old.lists) × (new.pairs ≡ old.pairs)
    × (i < length new.store → Watches (watch_of new i) l → HasTrue new.trail.lits (slice_index_or new.store i []))
Visits old new i l Moved =
    (slice_index_or new.lists.items (place_of l) [] ≡ slice_index_or old.lists.items (place_of l) [])
    × ((j : ℕ) → (j ≡ i → ⊥) → watch_of new j ≡ watch_of old j)
    × (Watches (watch_of new i) l → ⊥)
Visits old new i l False = IsFalseAt new.store new.trail.lits i

-- each clause that watches the literal has one that stands
abbrev pub HoldWhereWatched : State → ℤ → Type 0
HoldWhereWatched s l = (i : ℕ) → i < length s.store → Watches (watch_of s i) l → HasTrue s.trail.lits (slice_index_or s.store i [])
