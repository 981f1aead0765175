-- Hops: a cube of pairs, an input, and where the input leads.
use Rattle.std.specs.Prelude.{◌≡◌, ℕ, ◌<◌, Bool, true, List, [], ◌∷◌, ◌++◌, length, map, slice_index_or, Option, None, Some}
use Rattle.std.specs.Option.{ForSome}
use Rattle.rst_value.specs.declared.tern.Tern.{Tern}
use Rattle.rst_pair.specs.declared.hop.Hop.{Hop}
use Rattle.rst_pair.specs.Sides.{Sides, IsCube}
use Rattle.rst_pair.specs.Aims.{Aim', LeadsAll, passes, IsWidest}
use Rattle.rst_pair.specs.Aims.Aim'.{Differ, Inside, Outside}

abbrev pub cubes_of : List Hop → List (List Tern)
cubes_of hops = map (λ hop. hop.cube) hops

abbrev pub cube_at : List Hop → ℕ → List Tern
cube_at hops k = slice_index_or (cubes_of hops) k []

-- the word of the next hop, of those that stand already
abbrev pub next_word : List (List (List Bool)) → Option ℕ → List (List Bool)
next_word words None = []
next_word words (Some k) = slice_index_or words k []

-- the words of hops, behind those of the hops before them: each is the hop's input, then the word of its next hop
abbrev pub words_behind : List (List (List Bool)) → List Hop → List (List (List Bool))
words_behind words [] = words
words_behind words (hop ∷ hops) = words_behind (words ++ (hop.input ∷ next_word words hop.next) ∷ []) hops

abbrev pub words_of : List Hop → List (List (List Bool))
words_of hops = words_behind [] hops

abbrev pub word_of : List Hop → ℕ → List (List Bool)
word_of hops k = slice_index_or (words_of hops) k []

-- into the cube of the next blocked hop, and without one to different outputs
abbrev pub blocked_aim : List Hop → Option ℕ → Aim'
blocked_aim blocked None = Differ
blocked_aim blocked (Some k) = Inside (cube_at blocked k)

-- into the cube of the next freed hop, and without one into no blocked cube
abbrev pub freed_aim : List Hop → List Hop → Option ℕ → Aim'
freed_aim blocked freed None = Outside (cubes_of blocked)
freed_aim blocked freed (Some k) = Inside (cube_at freed k)

-- a hop of a pair whose next hop is one of so many
pub record IsHop (p : Sides) (count : ℕ) (hop : Hop) : Type 0 where
  pub cube : IsCube p hop.cube
  pub input : length hop.input ≡ p.left.inputs
  pub next : ForSome hop.next (λ k. k < count)

-- hops of a pair, each with an earlier one as its next
abbrev pub AreHops : Sides → List Hop → Type 0
AreHops p hops = (i : ℕ) (d : Hop) → i < length hops → IsHop p i (slice_index_or hops i d)

-- the hop does what it is for, for every pair of its cube
abbrev pub IsRight : Sides → Aim' → Hop → Type 0
IsRight p aim hop = LeadsAll p aim hop.cube hop.input

-- one three-valued cycle shows it
abbrev pub Passes : Sides → Aim' → Hop → Type 0
Passes p aim hop = passes p aim hop.input hop.cube ≡ true

abbrev pub IsWidestHop : Sides → Aim' → Hop → Type 0
IsWidestHop p aim hop = IsWidest p aim hop.input hop.cube
