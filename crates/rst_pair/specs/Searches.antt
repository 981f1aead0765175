-- Lists of freed hops that hold no more than they need, and sequences that the words of freed hops make up.
use Rattle.std.specs.Prelude.{ℕ, ◌<◌, Bool, List, [], ◌++◌, length, take, slice_index_or}
use Rattle.rst_gate.specs.Machine.{after}
use Rattle.rst_pair.specs.declared.hop.Hop.{Hop}
use Rattle.rst_pair.specs.Sides.{Sides, left_machine, right_machine, IsPair, Holds}
use Rattle.rst_pair.specs.Aims.{LiesInSome, LiesInNone}
use Rattle.rst_pair.specs.Hops.{cubes_of, cube_at, word_of, freed_aim, IsHop, IsRight, Passes, IsWidestHop}
use Rattle.rst_pair.specs.Fronts.{Front'}

-- the freed hop is right, passes and is widest, and holds a blocked pair that no hop before it holds
pub record IsLeanHop (p : Sides) (f : Front') (before : List Hop) (hop : Hop) : Type 0 where
  pub fits : IsHop p (length before) hop
  pub right : IsRight p (freed_aim f.blocked before hop.next) hop
  pub passes : Passes p (freed_aim f.blocked before hop.next) hop
  pub widest : IsWidestHop p (freed_aim f.blocked before hop.next) hop
  pub left_state : List Bool
  pub right_state : List Bool
  pub pair : IsPair p left_state right_state
  pub holds : Holds hop.cube left_state right_state
  pub blocked : LiesInSome (cubes_of f.blocked) left_state right_state
  pub not_before : LiesInNone (cubes_of before) left_state right_state

abbrev pub IsLean : Sides → Front' → Type 0
IsLean p f = (i : ℕ) (d : Hop) → i < length f.freed → IsLeanHop p f (take i f.freed) (slice_index_or f.freed i d)

-- the hop is the first of the list that holds the pair
pub record IsFirstWith (hops : List Hop) (k : ℕ) (s t : List Bool) : Type 0 where
  pub below : k < length hops
  pub holds : Holds (cube_at hops k) s t
  pub first : LiesInNone (cubes_of (take k hops)) s t

-- The empty sequence is grown; and a grown one followed by the word of the first freed hop that holds the pair of some two
-- states behind it, where that pair lies in a blocked cube.
pub data IsGrown (p : Sides) (f : Front') : List (List Bool) → Type 0 where
  empty : IsGrown p f []
  more : (word : List (List Bool)) (s t : List Bool) (k : ℕ) → IsGrown p f word → IsPair p s t
      → LiesInSome (cubes_of f.blocked) (after (left_machine p) s word) (after (right_machine p) t word)
      → IsFirstWith f.freed k (after (left_machine p) s word) (after (right_machine p) t word)
      → IsGrown p f (word ++ word_of f.freed k)
