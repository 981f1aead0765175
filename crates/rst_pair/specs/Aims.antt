-- Where an input is to lead the pairs of a cube, when it does, and when one three-valued cycle shows it.
use Rattle.std.specs.Prelude.{◌≡◌, ℕ, ◌<◌, Bool, true, false, ◌&&◌, ◌||◌, List, [], ◌∷◌, length, slice_index_or, slice_set}
use Rattle.rst_value.specs.declared.tern.Tern.{Tern}
use Rattle.rst_value.specs.declared.tern.Tern.TheVariants.{Zero, One, Unknown}
use Rattle.rst_pair.specs.Sides.{Sides, left_machine, right_machine, IsPair, IsCube, Holds, Shown, tern_step}

-- to different outputs, into a cube, or into none of these cubes
pub data Aim' : Type 0 where
  Differ : Aim'
  Inside : List Tern → Aim'
  Outside : List (List Tern) → Aim'

-- each cube that is aimed at has a place for each register of both sides
abbrev pub AimIsWide : Sides → Aim' → Type 0
AimIsWide p Differ = Unit {0}
AimIsWide p (Inside cube) = IsCube p cube
AimIsWide p (Outside cubes) = (i : ℕ) → i < length cubes → IsCube p (slice_index_or cubes i [])

-- the pair lies in one of the cubes
abbrev pub LiesInSome : List (List Tern) → List Bool → List Bool → Type 0
LiesInSome cubes s t = (i : ℕ) × (i < length cubes) × Holds (slice_index_or cubes i []) s t

-- the pair lies in none of the cubes
abbrev pub LiesInNone : List (List Tern) → List Bool → List Bool → Type 0
LiesInNone cubes s t = (i : ℕ) → i < length cubes → Holds (slice_index_or cubes i []) s t → ⊥

-- the input leads the pair there
abbrev pub Leads : Sides → Aim' → List Bool → List Bool → List Bool → Type 0
Leads p Differ input s t = (left_machine p).out s input ≡ (right_machine p).out t input → ⊥
Leads p (Inside cube) input s t = Holds cube ((left_machine p).step s input) ((right_machine p).step t input)
Leads p (Outside cubes) input s t = LiesInNone cubes ((left_machine p).step s input) ((right_machine p).step t input)

-- the input leads every pair of the cube there
abbrev pub LeadsAll : Sides → Aim' → List Tern → List Bool → Type 0
LeadsAll p aim cube input = (s t : List Bool) → IsPair p s t → Holds cube s t → Leads p aim input s t

-- two known values that differ
abbrev pub are_opposite : Tern → Tern → Bool
are_opposite Zero Zero = false
are_opposite Zero One = true
are_opposite Zero Unknown = false
are_opposite One Zero = true
are_opposite One One = false
are_opposite One Unknown = false
are_opposite Unknown b = false

-- whether some place is known and different in both
abbrev pub contradicts : List Tern → List Tern → Bool
contradicts [] ys = false
contradicts (x ∷ xs) [] = false
contradicts (x ∷ xs) (y ∷ ys) = are_opposite x y || contradicts xs ys

-- whether the second value is the first, which may be X
abbrev pub agrees : Tern → Tern → Bool
agrees Zero Zero = true
agrees Zero One = false
agrees Zero Unknown = false
agrees One Zero = false
agrees One One = true
agrees One Unknown = false
agrees Unknown b = true

-- whether the second cube lies within the first: it has each known place of it
abbrev pub is_within : List Tern → List Tern → Bool
is_within [] [] = true
is_within [] (y ∷ ys) = false
is_within (x ∷ xs) [] = false
is_within (x ∷ xs) (y ∷ ys) = agrees x y && is_within xs ys

-- whether the cube contradicts each of these
abbrev pub contradicts_all : List (List Tern) → List Tern → Bool
contradicts_all [] cube = true
contradicts_all (c ∷ cubes) cube = contradicts c cube && contradicts_all cubes cube

-- whether what a three-valued cycle shows says that its input leads there
abbrev pub shows : Aim' → Shown → Bool
shows Differ shown = contradicts shown.left_outs shown.right_outs
shows (Inside cube) shown = is_within cube shown.successor
shows (Outside cubes) shown = contradicts_all cubes shown.successor

-- whether one three-valued cycle from the cube shows it
abbrev pub passes : Sides → Aim' → List Bool → List Tern → Bool
passes p aim input cube = shows aim (tern_step p cube input)

-- no known place can be made X with the cube still passing
abbrev pub IsWidest : Sides → Aim' → List Bool → List Tern → Type 0
IsWidest p aim input cube =
    (i : ℕ) → i < length cube → (slice_index_or cube i Unknown ≡ Unknown → ⊥) → passes p aim input (slice_set cube i Unknown) ≡ false
