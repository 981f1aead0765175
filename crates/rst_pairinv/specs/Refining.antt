-- Relations that are exact, logs that refute a query, and work of splitting behind candidates.
use Rattle.std.specs.Prelude.{◌≡◌, ◌↔◌, ℕ, ◌<◌, ℤ, Bool, true, false, List, [], ◌++◌, length, slice_index_or}
use Rattle.rst_gate.specs.Machine.{SameAcross}
use Rattle.rst_gate.specs.ClosedSets.{IsClosedSet, AgreeOn}
use Rattle.rst_clause.specs.Propagation.{IsRefutation}
use Rattle.rst_clause.specs.Results.{largest}
use Rattle.rst_pair.specs.declared.hop.Hop.{Hop}
use Rattle.rst_pair.specs.declared.query.Query.{Query}
use Rattle.rst_pair.specs.declared.journal.Entry.{Entry}
use Rattle.rst_pair.specs.Sides.{Sides, left_machine, right_machine, IsPair}
use Rattle.rst_pair.specs.Fronts.{Front', IsRelated}
use Rattle.rst_pose.specs.Posed.{posed}
use Rattle.rst_pose.specs.Works.{Search, AreWork, phase}

-- Marked registers: a bit for each register of the left side. They are closed: their next values depend on inputs and on
-- marked registers alone. Any are marked only where both sides are the same gates.
pub record AreMarked (p : Sides) (equal : List Bool) : Type 0 where
  pub count : length equal ≡ p.left.states
  pub closed : IsClosedSet p.left equal
  pub one_design : (i : ℕ) → slice_index_or equal i false ≡ true → p.left ≡ p.right

-- the marked registers and these blocked hops, with none freed
abbrev pub front_with : List Bool → List Hop → Front'
front_with equal blocked = record { equal = equal; blocked = blocked; freed = [] }

-- the log refutes the clauses that are posed for the query: it speaks of their variables, each line follows, and the last is
-- the empty clause
abbrev pub Refutes : Sides → Front' → Query → List (List ℤ) → Type 0
Refutes p f query log = IsRefutation (largest (posed p f query).fixed) ((posed p f query).fixed ++ (posed p f query).required) log

-- the related pairs are exactly those that behave the same and agree on the marked registers
abbrev pub IsExact : Sides → Front' → Type 0
IsExact p f = (s t : List Bool) → IsPair p s t
    → IsRelated f s t ↔ (SameAcross (left_machine p) (right_machine p) s t × AgreeOn f.equal s t)

-- entries of the first phase alone, that of candidates
abbrev pub AreCandidates : List Entry → Type 0
AreCandidates entries = (i : ℕ) (d : Entry) → i < length entries → phase (slice_index_or entries i d) ≡ 0

-- Behind the work of candidates the entries keep the work of every search, one that checks and one that finds, about this
-- pair with these registers marked.
abbrev pub KeepsWork : Sides → List Bool → List Entry → Type 0
KeepsWork p equal entries = (search : Search) (before : List Entry) → search.sides ≡ p → search.equal ≡ equal
    → AreCandidates before → AreWork search before → AreWork search (before ++ entries)
