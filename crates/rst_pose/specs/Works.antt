-- The work of a search: each entry of its journal is true, and new behind those before it.
use Rattle.std.specs.Prelude.{◌≡◌, ℕ, ◌<◌, ◌≤◌, Bool, true, false, List, [], ◌∷◌, ◌++◌, length, take, drop, replicate, slice_index_or, slice_set}
use Rattle.std.specs.List.{Contains}
use Rattle.rst_value.specs.declared.tern.Tern.{Tern}
use Rattle.rst_gate.specs.Machine.{after}
use Rattle.rst_gate.specs.ClosedSets.{AgreeOn}
use Rattle.rst_gate.specs.TernMachine.{Knows}
use Rattle.rst_gate.specs.GateMachines.{terns_of}
use Rattle.rst_clause.specs.Paths.{IsPath, AreDisjoint}
use Rattle.rst_pair.specs.declared.hop.Hop.{Hop}
use Rattle.rst_pair.specs.declared.query.Query.{Query}
use Rattle.rst_pair.specs.declared.query.Query.TheVariants.{Split, LandFree, Land, Escape, Stuck}
use Rattle.rst_pair.specs.declared.query.Kind.{Kind}
use Rattle.rst_pair.specs.declared.query.Kind.TheVariants as kind
use Rattle.rst_pair.specs.declared.journal.Entry.{Entry}
use Rattle.rst_pair.specs.declared.journal.Entry.TheVariants.{Candidate, Conflict, Blocked, Freed, Built}
use Rattle.rst_pair.specs.Sides.{Sides, left_machine, right_machine, IsPair, Holds}
use Rattle.rst_pair.specs.Aims.{Aim', LiesInSome, LiesInNone}
use Rattle.rst_pair.specs.Hops.{cubes_of, word_of, blocked_aim, freed_aim, IsHop, IsRight, Passes, IsWidestHop}
use Rattle.rst_pair.specs.Fronts.{Front'}
use Rattle.rst_pair.specs.Queries.{IsQueryCase}
use Rattle.rst_pair.specs.Searches.{IsFirstWith}
use Rattle.rst_pose.specs.Posed.{posed}

-- What a journal is read with. `find` tries candidates, frees and builds, and `check` doesn't.
pub record Search : Type 0 where
  pub sides : Sides
  pub finds : Bool
  -- the marked registers
  pub equal : List Bool
  -- of `check`: the pattern that is asked about
  pub pattern : List (List Tern)
  -- of `find`: the cycles of a candidate
  pub bound : ℕ

-- the hops of blocked and of freed entries
abbrev pub blocked_of : List Entry → List Hop
blocked_of [] = []
blocked_of (Candidate i level ∷ entries) = blocked_of entries
blocked_of (Conflict k path ∷ entries) = blocked_of entries
blocked_of (Blocked hop pair ∷ entries) = hop ∷ blocked_of entries
blocked_of (Freed hop pair ∷ entries) = blocked_of entries
blocked_of (Built a b ∷ entries) = blocked_of entries

abbrev pub freed_of : List Entry → List Hop
freed_of [] = []
freed_of (Candidate i level ∷ entries) = freed_of entries
freed_of (Conflict k path ∷ entries) = freed_of entries
freed_of (Blocked hop pair ∷ entries) = freed_of entries
freed_of (Freed hop pair ∷ entries) = hop ∷ freed_of entries
freed_of (Built a b ∷ entries) = freed_of entries

abbrev pub front_of : Search → List Entry → Front'
front_of search entries = record { equal = search.equal; blocked = blocked_of entries; freed = freed_of entries }

-- the paths of the same query: those of the kind behind its last new hop or state
abbrev pub paths_of : Kind → List (List Tern) → List Entry → List (List Tern)
paths_of k paths [] = paths
paths_of k paths (Candidate i level ∷ entries) = paths_of k paths entries
paths_of kind.Split paths (Conflict kind.Split path ∷ entries) = paths_of kind.Split (path ∷ paths) entries
paths_of kind.Land paths (Conflict kind.Land path ∷ entries) = paths_of kind.Land (path ∷ paths) entries
paths_of kind.Escape paths (Conflict kind.Escape path ∷ entries) = paths_of kind.Escape (path ∷ paths) entries
paths_of kind.Stuck paths (Conflict kind.Stuck path ∷ entries) = paths_of kind.Stuck (path ∷ paths) entries
paths_of k paths (Conflict other path ∷ entries) = paths_of k paths entries
paths_of kind.Split paths (Blocked hop pair ∷ entries) = paths_of kind.Split [] entries
paths_of k paths (Blocked hop pair ∷ entries) = paths_of k paths entries
paths_of kind.Escape paths (Freed hop pair ∷ entries) = paths_of kind.Escape [] entries
paths_of kind.Stuck paths (Freed hop pair ∷ entries) = paths_of kind.Stuck [] entries
paths_of k paths (Freed hop pair ∷ entries) = paths_of k paths entries
paths_of kind.Land paths (Built a b ∷ entries) = paths_of kind.Land [] entries
paths_of k paths (Built a b ∷ entries) = paths_of k paths entries

-- the sequence behind built entries: each adds the word of the first freed hop that holds its pair behind the sequence
pub data IsSequence (p : Sides) (freed : List Hop) : List Entry → List (List Bool) → Type 0 where
  none : IsSequence p freed [] []
  other : (entries : List Entry) (entry : Entry) (word : List (List Bool)) → ((a b : List Bool) → entry ≡ Built a b → ⊥)
      → IsSequence p freed entries word → IsSequence p freed (entries ++ entry ∷ []) word
  built : (entries : List Entry) (a b : List Bool) (word : List (List Bool)) (k : ℕ) → IsSequence p freed entries word
      → IsFirstWith freed k (after (left_machine p) a word) (after (right_machine p) b word)
      → IsSequence p freed (entries ++ Built a b ∷ []) (word ++ word_of freed k)

-- the first candidates, then splitting, then freeing, then landing
abbrev pub phase : Entry → ℕ
phase (Candidate i level) = 0
phase (Conflict kind.Split path) = 1
phase (Blocked hop pair) = 1
phase (Conflict kind.Escape path) = 2
phase (Conflict kind.Stuck path) = 2
phase (Freed hop pair) = 2
phase (Conflict kind.Land path) = 3
phase (Built a b) = 3

-- the query has no case
abbrev pub HasNoCase : Sides → Front' → Query → Type 0
HasNoCase p f query = (bits : List Bool) → IsQueryCase p f query bits → ⊥

-- one input bit at the level, and all others at 0
abbrev pub candidate_input : ℕ → ℕ → Bool → List Bool
candidate_input inputs i level = slice_set (replicate inputs false) i level

-- a hop that does what it is for, and a pair that it holds
pub record IsGoodHop (p : Sides) (aim : Aim') (count : ℕ) (hop : Hop) (s t : List Bool) : Type 0 where
  pub fits : IsHop p count hop
  pub right : IsRight p aim hop
  pub passes : Passes p aim hop
  pub widest : IsWidestHop p aim hop
  pub pair : IsPair p s t
  pub holds : Holds hop.cube s t

-- no solution of the query lies in the path, which is tight and meets none of the same query before it
pub record IsConflict (p : Sides) (f : Front') (query : Query) (earlier : List (List Tern)) (path : List Tern) : Type 0 where
  pub is_path : IsPath (posed p f query).free ((posed p f query).fixed ++ (posed p f query).required) path
  pub apart : (other : List Tern) → Contains earlier other → AreDisjoint other path

-- a conflict of landing: a search that finds speaks of the sequence so far, and `check` of its pattern
abbrev pub IsLandConflict : Bool → Search → List Entry → List Tern → Type 0
IsLandConflict true r earlier path =
    (word : List (List Bool)) × IsSequence r.sides (freed_of earlier) earlier word
    × IsConflict r.sides (front_of r earlier) (Land word) (paths_of kind.Land [] earlier) path
IsLandConflict false r earlier path = IsConflict r.sides (front_of r earlier) (LandFree r.pattern) (paths_of kind.Land [] earlier) path

-- the entry is true, and new behind the earlier ones
abbrev pub IsTrueEntry : Search → List Entry → Entry → Type 0
IsTrueEntry r earlier (Candidate i level) =
    (r.finds ≡ true) × (i < r.sides.left.inputs) × (Contains earlier (Candidate i level) → ⊥)
    × (Knows (terns_of r.sides.left) (replicate r.bound (candidate_input r.sides.left.inputs i level)) → ⊥)
IsTrueEntry r earlier (Blocked hop pair) =
    let s = take r.sides.left.states pair in
    let t = drop r.sides.left.states pair in
    IsGoodHop r.sides (blocked_aim (blocked_of earlier) hop.next) (length (blocked_of earlier)) hop s t
    × AgreeOn r.equal s t × LiesInNone (cubes_of (blocked_of earlier)) s t
IsTrueEntry r earlier (Freed hop pair) =
    let s = take r.sides.left.states pair in
    let t = drop r.sides.left.states pair in
    (r.finds ≡ true)
    × IsGoodHop r.sides (freed_aim (blocked_of earlier) (freed_of earlier) hop.next) (length (freed_of earlier)) hop s t
    × LiesInSome (cubes_of (blocked_of earlier)) s t × LiesInNone (cubes_of (freed_of earlier)) s t
IsTrueEntry r earlier (Conflict kind.Split path) = IsConflict r.sides (front_of r earlier) Split (paths_of kind.Split [] earlier) path
IsTrueEntry r earlier (Conflict kind.Escape path) =
    (r.finds ≡ true) × IsConflict r.sides (front_of r earlier) Escape (paths_of kind.Escape [] earlier) path
IsTrueEntry r earlier (Conflict kind.Stuck path) =
    (r.finds ≡ true) × IsConflict r.sides (front_of r earlier) Stuck (paths_of kind.Stuck [] earlier) path
IsTrueEntry r earlier (Conflict kind.Land path) = IsLandConflict r.finds r earlier path
IsTrueEntry r earlier (Built a b) =
    (r.finds ≡ true) × IsPair r.sides a b × ((word : List (List Bool)) × IsSequence r.sides (freed_of earlier) earlier word
    × LiesInSome (cubes_of (blocked_of earlier)) (after (left_machine r.sides) a word) (after (right_machine r.sides) b word))

-- Each entry is true and new behind those before it, no phase comes back, and the phases before an entry are complete: past
-- splitting no pair splits, and where a search that finds lands, no pair is stuck.
pub record AreWork (r : Search) (entries : List Entry) : Type 0 where
  pub each : (i : ℕ) (d : Entry) → i < length entries → IsTrueEntry r (take i entries) (slice_index_or entries i d)
  pub phases : (i j : ℕ) (d : Entry) → i < j → j < length entries → phase (slice_index_or entries i d) ≤ phase (slice_index_or entries j d)
  pub split : (i : ℕ) (d : Entry) → i < length entries → 1 < phase (slice_index_or entries i d) → HasNoCase r.sides (front_of r entries) Split
  pub stuck : (i : ℕ) (d : Entry) → i < length entries → 2 < phase (slice_index_or entries i d) → r.finds ≡ true
      → HasNoCase r.sides (front_of r entries) Stuck
