-- Queries about the pairs of a front: which free bits they have, and which values of these are their cases.
use Rattle.std.specs.Prelude.{◌≡◌, ℕ, zero, suc, ◌+◌, Bool, false, if◌then◌else◌, List, [], ◌∷◌, length, take, drop, slice_index_or, ◌⊎◌}
use Rattle.rst_gate.specs.Machine.{after}
use Rattle.rst_gate.specs.Patterns.{free_bits, filled}
use Rattle.rst_pair.specs.declared.query.Query.{Query}
use Rattle.rst_pair.specs.declared.query.Query.TheVariants.{Split, Land, LandFree, Escape, Stuck}
use Rattle.rst_pair.specs.Sides.{Sides, left_machine, right_machine}
use Rattle.rst_pair.specs.Aims.{LiesInSome, LiesInNone}
use Rattle.rst_pair.specs.Hops.{cubes_of}
use Rattle.rst_pair.specs.Fronts.{Front', IsRelated}

-- how many of the registers aren't marked
abbrev pub open_count : ℕ → List Bool → ℕ
open_count zero marks = 0
open_count (suc n) marks = (if slice_index_or marks 0 false then 0 else 1) + open_count n (drop 1 marks)

-- the state of so many registers that has the other state's bits where registers are marked, and elsewhere these
abbrev pub sharing_state : ℕ → List Bool → List Bool → List Bool → List Bool
sharing_state zero marks s bits = []
sharing_state (suc n) marks s bits =
    if slice_index_or marks 0 false then slice_index_or s 0 false ∷ sharing_state n (drop 1 marks) (drop 1 s) bits
    else slice_index_or bits 0 false ∷ sharing_state n (drop 1 marks) (drop 1 s) (drop 1 bits)

-- what free bits are: an input, the two states, and a word of inputs
pub record Reading : Type 0 where
  pub input : List Bool
  pub left : List Bool
  pub right : List Bool
  pub word : List (List Bool)

-- Split has the input, the left state and the unmarked right registers; Escape the input and both states; Land and Stuck
-- both states, and Land with free bits these behind them, cycle by cycle
abbrev pub query_bits : Sides → Front' → Query → ℕ
query_bits p f Split = p.left.inputs + p.left.states + open_count p.right.states f.equal
query_bits p f (Land word) = p.left.states + p.right.states
query_bits p f (LandFree pattern) = p.left.states + p.right.states + free_bits pattern
query_bits p f Escape = p.left.inputs + p.left.states + p.right.states
query_bits p f Stuck = p.left.states + p.right.states

abbrev pub reading : Sides → Front' → Query → List Bool → Reading
reading p f Split bits =
    let left = take p.left.states (drop p.left.inputs bits) in
    record {
      input = take p.left.inputs bits;
      left = left;
      right = sharing_state p.right.states f.equal left (drop (p.left.inputs + p.left.states) bits);
      word = [];
    }
reading p f (Land word) bits = record { input = []; left = take p.left.states bits; right = drop p.left.states bits; word = word }
reading p f (LandFree pattern) bits = record {
  input = [];
  left = take p.left.states bits;
  right = take p.right.states (drop p.left.states bits);
  word = filled pattern (drop (p.left.states + p.right.states) bits);
}
reading p f Escape bits = record {
  input = take p.left.inputs bits;
  left = take p.left.states (drop p.left.inputs bits);
  right = drop (p.left.inputs + p.left.states) bits;
  word = [];
}
reading p f Stuck bits = record { input = []; left = take p.left.states bits; right = drop p.left.states bits; word = [] }

-- behind the cycle of the reading's input
abbrev pub left_next : Sides → Reading → List Bool
left_next p r = (left_machine p).step r.left r.input

abbrev pub right_next : Sides → Reading → List Bool
right_next p r = (right_machine p).step r.right r.input

-- the pair lies in a blocked and in no freed cube
pub record IsStuck (f : Front') (s t : List Bool) : Type 0 where
  pub blocked : LiesInSome (cubes_of f.blocked) s t
  pub not_freed : LiesInNone (cubes_of f.freed) s t

-- behind the word the pair lies in a blocked cube
abbrev pub Lands : Sides → Front' → Reading → Type 0
Lands p f r = LiesInSome (cubes_of f.blocked) (after (left_machine p) r.left r.word) (after (right_machine p) r.right r.word)

-- a pair of the relation whose outputs differ, or whose successors lie in a blocked cube
pub record Splits (p : Sides) (f : Front') (r : Reading) : Type 0 where
  pub related : IsRelated f r.left r.right
  pub leaves : ((left_machine p).out r.left r.input ≡ (right_machine p).out r.right r.input → ⊥)
      ⊎ LiesInSome (cubes_of f.blocked) (left_next p r) (right_next p r)

-- a stuck pair whose successors lie in no blocked cube or in a freed one
pub record Escapes (p : Sides) (f : Front') (r : Reading) : Type 0 where
  pub stuck : IsStuck f r.left r.right
  pub leaves : LiesInNone (cubes_of f.blocked) (left_next p r) (right_next p r)
      ⊎ LiesInSome (cubes_of f.freed) (left_next p r) (right_next p r)

abbrev pub IsCase : Sides → Front' → Query → Reading → Type 0
IsCase p f Split r = Splits p f r
IsCase p f (Land word) r = Lands p f r
IsCase p f (LandFree pattern) r = Lands p f r
IsCase p f Escape r = Escapes p f r
IsCase p f Stuck r = IsStuck f r.left r.right

-- the values of the free bits are a case of the query
pub record IsQueryCase (p : Sides) (f : Front') (query : Query) (bits : List Bool) : Type 0 where
  pub count : length bits ≡ query_bits p f query
  pub holds : IsCase p f query (reading p f query bits)
