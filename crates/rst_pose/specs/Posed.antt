-- The clauses that are posed for a query: which gates are read, in which order, and what is asked of them.
use Rattle.std.specs.Prelude.{ℕ, zero, suc, ◌+◌, ℤ, pos, Bool, false, if◌then◌else◌, List, [], ◌∷◌, ◌++◌, map, drop, slice_index_or}
use Rattle.rst_value.specs.declared.tern.Tern.{Tern}
use Rattle.rst_value.specs.declared.tern.Tern.TheVariants.{Zero, One, Unknown}
use Rattle.rst_value.specs.Domains.{Content}
use Rattle.rst_gate.specs.Patterns.{free_count, known_pattern}
use Rattle.rst_gate.specs.NamedResults.{frame_gives}
use Rattle.rst_clause.specs.Literals.{opposite}
use Rattle.rst_clause.specs.Operations.{denies_next}
use Rattle.rst_clause.specs.Results.{clause_results}
use Rattle.rst_pair.specs.declared.query.Query.{Query}
use Rattle.rst_pair.specs.declared.query.Query.TheVariants.{Split, Land, LandFree, Escape, Stuck}
use Rattle.rst_pair.specs.Sides.{Sides}
use Rattle.rst_pair.specs.Hops.{cubes_of}
use Rattle.rst_pair.specs.Fronts.{Front'}
use Rattle.rst_pair.specs.Queries.{query_bits}

-- literals, and the fixed clauses behind them
abbrev pub Lits : Type 0
Lits = List ℤ × Content

-- so many free bits, the first of them being the variable behind this one
abbrev pub free_literals : ℕ → ℕ → List ℤ
free_literals before zero = []
free_literals before (suc n) = pos (suc before) ∷ free_literals (suc before) n

-- the right state's literals: the left one's where registers are marked, and elsewhere the next free bits
abbrev pub sharing_literals : ℕ → List Bool → List ℤ → ℕ → List ℤ
sharing_literals zero marks left before = []
sharing_literals (suc n) marks left before =
    if slice_index_or marks 0 false then slice_index_or left 0 (pos 0) ∷ sharing_literals n (drop 1 marks) (drop 1 left) before
    else pos (suc before) ∷ sharing_literals n (drop 1 marks) (drop 1 left) (suc before)

-- the inputs of a cycle: constants by the false literal, and at its free places the next free bits
abbrev pub cycle_literals : ℤ → List Tern → ℕ → List ℤ
cycle_literals low [] before = []
cycle_literals low (Zero ∷ places) before = low ∷ cycle_literals low places before
cycle_literals low (One ∷ places) before = opposite low ∷ cycle_literals low places before
cycle_literals low (Unknown ∷ places) before = pos (suc before) ∷ cycle_literals low places (suc before)

-- what a cycle of both sides gives, and the fixed clauses behind it
pub record Framed : Type 0 where
  pub left_outs : List ℤ
  pub left_nexts : List ℤ
  pub right_outs : List ℤ
  pub right_nexts : List ℤ
  pub behind : Content

-- the left gates, then the right ones
abbrev pub framed : Sides → List ℤ → List ℤ → List ℤ → Content → Framed
framed p inputs left right content =
    let l = frame_gives clause_results p.left inputs left content in
    let r = frame_gives clause_results p.right inputs right l.2 in
    record { left_outs = l.0; left_nexts = l.1; right_outs = r.0; right_nexts = r.1; behind = r.2 }

-- the literals of the pair behind a pattern, cycle by cycle
abbrev pub pattern_literals : Sides → ℤ → List (List Tern) → ℕ → List ℤ → List ℤ → Content → Lits
pattern_literals p low [] before left right content = (left ++ right, content)
pattern_literals p low (places ∷ pattern) before left right content =
    let frame = framed p (cycle_literals low places before) left right content in
    pattern_literals p low pattern (before + free_count places) frame.left_nexts frame.right_nexts frame.behind

-- the literal so far, and the value of a place, or its opposite, where the place is known
abbrev pub with_place : ℤ → Tern → ℤ → Content → ℤ × Content
with_place so_far Zero v content = clause_results.both content so_far (opposite v)
with_place so_far One v content = clause_results.both content so_far v
with_place so_far Unknown v content = (so_far, content)

-- the `and` of the known places of a cube, from the left, behind the literal so far
abbrev pub in_cube : ℤ → List Tern → List ℤ → Content → ℤ × Content
in_cube so_far [] values content = (so_far, content)
in_cube so_far (place ∷ places) [] content = (so_far, content)
in_cube so_far (place ∷ places) (v ∷ values) content =
    let z = with_place so_far place v content in in_cube z.0 places values z.1

-- that of each cube in turn, each begun with this literal, which is true
abbrev pub in_cubes : ℤ → List (List Tern) → List ℤ → Content → Lits
in_cubes high [] values content = ([], content)
in_cubes high (cube ∷ cubes) values content =
    let one = in_cube high cube values content in
    let rest = in_cubes high cubes values one.1 in
    (one.0 ∷ rest.0, rest.1)

-- the literal so far, and that the cube, whose `and` is begun with the true literal, doesn't hold the pair
abbrev pub with_none : ℤ → ℤ → List Tern → List ℤ → Content → ℤ × Content
with_none high so_far cube values content =
    let one = in_cube high cube values content in clause_results.both one.1 so_far (opposite one.0)

-- in none of the cubes: an `and` of opposites, behind the literal so far
abbrev pub in_none : ℤ → ℤ → List (List Tern) → List ℤ → Content → ℤ × Content
in_none high so_far [] values content = (so_far, content)
in_none high so_far (cube ∷ cubes) values content =
    let z = with_none high so_far cube values content in in_none high z.0 cubes values z.1

-- whether each two outputs differ
abbrev pub outs_differ : List ℤ → List ℤ → Content → Lits
outs_differ [] rights content = ([], content)
outs_differ (l ∷ lefts) [] content = ([], content)
outs_differ (l ∷ lefts) (r ∷ rights) content =
    let one = clause_results.differ content l r in
    let rest = outs_differ lefts rights one.1 in
    (one.0 ∷ rest.0, rest.1)

-- what is asked behind a content: the fixed clauses behind it, and the required ones
pub record Asked : Type 0 where
  pub fixed : Content
  pub required : List (List ℤ)

-- each of the literals is false, by a clause of its own
abbrev pub each_false : List ℤ → List (List ℤ)
each_false literals = map (λ z. opposite z ∷ []) literals

-- the pair lies in no blocked cube, and its outputs differ or its successors lie in a blocked cube
abbrev pub asked_split : Sides → Front' → ℤ → List ℤ → List ℤ → List ℤ → Content → Asked
asked_split p f high inputs left right content =
    let frame = framed p inputs left right content in
    let pair = in_cubes high (cubes_of f.blocked) (left ++ right) frame.behind in
    let differ = outs_differ frame.left_outs frame.right_outs pair.1 in
    let next = in_cubes high (cubes_of f.blocked) (frame.left_nexts ++ frame.right_nexts) differ.1 in
    record { fixed = next.1; required = each_false pair.0 ++ (differ.0 ++ next.0) ∷ [] }

-- the pair lies in a blocked cube
abbrev pub asked_blocked : Front' → ℤ → List ℤ → Content → Asked
asked_blocked f high pair content =
    let found = in_cubes high (cubes_of f.blocked) pair content in record { fixed = found.1; required = found.0 ∷ [] }

-- the pair lies in a blocked and in no freed cube
abbrev pub asked_stuck : Front' → ℤ → List ℤ → Content → Asked
asked_stuck f high pair content =
    let blocked = in_cubes high (cubes_of f.blocked) pair content in
    let freed = in_cubes high (cubes_of f.freed) pair blocked.1 in
    record { fixed = freed.1; required = blocked.0 ∷ each_false freed.0 }

-- the pair lies in no blocked cube or in a freed one
abbrev pub asked_leaving : Front' → ℤ → List ℤ → Content → Asked
asked_leaving f high pair content =
    let none = in_none high high (cubes_of f.blocked) pair content in
    let freed = in_cubes high (cubes_of f.freed) pair none.1 in
    record { fixed = freed.1; required = (none.0 ∷ freed.0) ∷ [] }

-- the pair is stuck, and its successors leave
abbrev pub asked_escape : Sides → Front' → ℤ → List ℤ → List ℤ → List ℤ → Content → Asked
asked_escape p f high inputs left right content =
    let frame = framed p inputs left right content in
    let stuck = asked_stuck f high (left ++ right) frame.behind in
    let leaving = asked_leaving f high (frame.left_nexts ++ frame.right_nexts) stuck.fixed in
    record { fixed = leaving.fixed; required = stuck.required ++ leaving.required }

-- behind the pattern the pair lies in a blocked cube
abbrev pub asked_land : Sides → Front' → ℤ → List (List Tern) → Content → Asked
asked_land p f high pattern content =
    let left = free_literals 0 p.left.states in
    let right = free_literals p.left.states p.right.states in
    let last = pattern_literals p (opposite high) pattern (p.left.states + p.right.states) left right content in
    asked_blocked f high last.0 last.1

-- what is posed: how many bits are free, the fixed clauses, and the required ones
pub record Posed : Type 0 where
  pub free : ℕ
  pub fixed : List (List ℤ)
  pub required : List (List ℤ)

abbrev pub with_free : ℕ → Asked → Posed
with_free free asked = record { free = free; fixed = asked.fixed; required = asked.required }

-- the fixed clauses begin with the one that makes the variable behind the free ones false
abbrev pub first_clauses : ℕ → Content
first_clauses free = denies_next free ∷ []

abbrev pub true_literal : ℕ → ℤ
true_literal free = opposite (pos (suc free))

abbrev pub posed : Sides → Front' → Query → Posed
posed p f Split =
    let free = query_bits p f Split in
    let left = free_literals p.left.inputs p.left.states in
    let right = sharing_literals p.right.states f.equal left (p.left.inputs + p.left.states) in
    with_free free (asked_split p f (true_literal free) (free_literals 0 p.left.inputs) left right (first_clauses free))
posed p f (Land word) =
    let free = query_bits p f (Land word) in
    with_free free (asked_land p f (true_literal free) (known_pattern word) (first_clauses free))
posed p f (LandFree pattern) =
    let free = query_bits p f (LandFree pattern) in
    with_free free (asked_land p f (true_literal free) pattern (first_clauses free))
posed p f Escape =
    let free = query_bits p f Escape in
    let left = free_literals p.left.inputs p.left.states in
    let right = free_literals (p.left.inputs + p.left.states) p.right.states in
    with_free free (asked_escape p f (true_literal free) (free_literals 0 p.left.inputs) left right (first_clauses free))
posed p f Stuck =
    let free = query_bits p f Stuck in
    with_free free (asked_stuck f (true_literal free) (free_literals 0 (p.left.states + p.right.states)) (first_clauses free))
