-- Where a pattern leads the pairs of power-up states.
use Rattle.std.specs.Prelude.{◌≡◌, ℕ, ℤ, Bool, true, false, List, ◌++◌, length, replicate, slice_index_or}
use Rattle.rst_value.specs.declared.tern.Tern.{Tern}
use Rattle.rst_value.specs.declared.tern.Tern.TheVariants.{Unknown}
use Rattle.rst_gate.specs.Machine.{after}
use Rattle.rst_gate.specs.Patterns.{IsFilling}
use Rattle.rst_gate.specs.TernMachine.{TernMachine, pattern_after, IsKnown}
use Rattle.rst_gate.specs.GateMachines.{terns_of}
use Rattle.rst_clause.specs.Propagation.{IsRefutation}
use Rattle.rst_clause.specs.Results.{largest}
use Rattle.rst_pair.specs.declared.query.Query.TheVariants.{LandFree}
use Rattle.rst_pair.specs.declared.journal.Entry.{Entry}
use Rattle.rst_pair.specs.Sides.{Sides, left_machine, right_machine, IsPair}
use Rattle.rst_pair.specs.Fronts.{Front', IsRelated}
use Rattle.rst_pair.specs.Searches.{IsFirstWith}
use Rattle.rst_pose.specs.Posed.{posed}
use Rattle.rst_landing.specs.declared.answer.Landing.{Landing}
use Rattle.rst_landing.specs.declared.answer.Landing.TheVariants.{Inside, Outside, Spent}

-- the state behind the pattern, from the state of all X and with X at each free bit
abbrev pub known_behind : TernMachine → List (List Tern) → List Tern
known_behind t pattern = pattern_after t (replicate t.registers Unknown) pattern

-- behind the pattern each marked register is known, and has the same value on both sides
abbrev pub AreKnownBehind : Sides → List Bool → List (List Tern) → Type 0
AreKnownBehind p marks pattern =
    (i : ℕ) → slice_index_or marks i false ≡ true
    → IsKnown (slice_index_or (known_behind (terns_of p.left) pattern) i Unknown)
    × (slice_index_or (known_behind (terns_of p.left) pattern) i Unknown ≡ slice_index_or (known_behind (terns_of p.right) pattern) i Unknown)

-- the clauses that ask for a pair that lands
abbrev pub land_clauses : Sides → Front' → List (List Tern) → List (List ℤ)
land_clauses p f pattern = (posed p f (LandFree pattern)).fixed ++ (posed p f (LandFree pattern)).required

-- their variables are 1 to this number
abbrev pub land_variables : Sides → Front' → List (List Tern) → ℕ
land_variables p f pattern = largest (posed p f (LandFree pattern)).fixed

-- behind every filling every pair of power-up states is one of the relation
abbrev pub EndsInside : Sides → Front' → List (List Tern) → Type 0
EndsInside p f pattern =
    (word : List (List Bool)) (s t : List Bool) → IsFilling pattern word → IsPair p s t
    → IsRelated f (after (left_machine p) s word) (after (right_machine p) t word)

-- two power-up states, and a filling behind which they lie in this blocked cube and in none before it
pub record IsLanding (p : Sides) (f : Front') (pattern : List (List Tern)) (a b : List Bool) (fill : List (List Bool)) (cube : ℕ) : Type 0 where
  pub pair : IsPair p a b
  pub fills : IsFilling pattern fill
  pub lands : IsFirstWith f.blocked cube (after (left_machine p) a fill) (after (right_machine p) b fill)

-- the work of the answer
abbrev pub journal_of : Landing → List Entry
journal_of (Inside log journal) = journal
journal_of (Outside a b fill cube journal) = journal
journal_of (Spent journal) = journal

abbrev pub IsOutside : Landing → Type 0
IsOutside (Inside log journal) = ⊥
IsOutside (Outside a b fill cube journal) = Unit {0}
IsOutside (Spent journal) = ⊥

-- the log of Inside refutes the clauses
abbrev pub HasRefuted : Sides → Front' → List (List Tern) → Landing → Type 0
HasRefuted p f pattern (Inside log journal) = IsRefutation (land_variables p f pattern) (land_clauses p f pattern) log
HasRefuted p f pattern (Outside a b fill cube journal) = Unit {0}
HasRefuted p f pattern (Spent journal) = Unit {0}

-- Inside says that no pair leaves the relation
abbrev pub IsSureInside : Sides → Front' → List (List Tern) → Landing → Type 0
IsSureInside p f pattern (Inside log journal) = EndsInside p f pattern
IsSureInside p f pattern (Outside a b fill cube journal) = Unit {0}
IsSureInside p f pattern (Spent journal) = Unit {0}

-- Outside names a pair that lands
abbrev pub HasLanded : Sides → Front' → List (List Tern) → Landing → Type 0
HasLanded p f pattern (Inside log journal) = Unit {0}
HasLanded p f pattern (Outside a b fill cube journal) = IsLanding p f pattern a b fill cube
HasLanded p f pattern (Spent journal) = Unit {0}

-- Spent has no unit left
abbrev pub HasSpent : ℕ → Landing → Type 0
HasSpent left (Inside log journal) = Unit {0}
HasSpent left (Outside a b fill cube journal) = Unit {0}
HasSpent left (Spent journal) = length journal ≡ left
