-- The hops and the paths of appended journals, and the work of splitting behind candidates.
use Rattle.std.proofs.Common.{◌≡◌, ◌∙◌, ℕ, suc, ◌<◌, ◌≤◌, ◌+◌, inl, inr, Bool, List, [], ◌∷◌, ◌++◌, length, get_or, take, drop, refl, ap, sym, subst, arith, length-append}
use Rattle.std.proofs.Math.Seq.{take-append-add}
use Rattle.std.proofs.lemmas.List.{take-append-le, get_or_append_left, get_or-append-add}
use Rattle.rst_value.specs.declared.tern.Tern.{Tern}
use Rattle.rst_gate.specs.ClosedSets.{AgreeOn}
use Rattle.rst_pair.specs.declared.hop.Hop.{Hop}
use Rattle.rst_pair.specs.declared.query.Query.TheVariants.{Split}
use Rattle.rst_pair.specs.declared.query.Kind.{Kind}
use Rattle.rst_pair.specs.declared.query.Kind.TheVariants as kind
use Rattle.rst_pair.specs.declared.journal.Entry.{Entry}
use Rattle.rst_pair.specs.declared.journal.Entry.TheVariants.{Candidate, Conflict, Blocked, Freed, Built}
use Rattle.rst_pair.specs.Sides.{Sides}
use Rattle.rst_pair.specs.Aims.{LiesInNone}
use Rattle.rst_pair.specs.Hops.{cubes_of, blocked_aim}
use Rattle.rst_pose.specs.Works.{Search, blocked_of, freed_of, paths_of, phase, IsGoodHop, IsConflict, IsTrueEntry, AreWork}
use Rattle.rst_pairinv.specs.Refining.{AreCandidates, KeepsWork}
use Rattle.rst_pairinv.specs.Turns.{plain_search, AreSplitting}
use Rattle.rst_pairinv.proofs.Lists.{at_both, below_or_behind}

pub blocked-append : (xs ys : List Entry) → blocked_of (xs ++ ys) ≡ blocked_of xs ++ blocked_of ys
blocked-append [] ys = refl
blocked-append (Candidate i level ∷ xs) ys = blocked-append xs ys
blocked-append (Conflict k path ∷ xs) ys = blocked-append xs ys
blocked-append (Blocked hop pair ∷ xs) ys = ap (λ (r : List Hop). hop ∷ r) (blocked-append xs ys)
blocked-append (Freed hop pair ∷ xs) ys = blocked-append xs ys
blocked-append (Built a b ∷ xs) ys = blocked-append xs ys

pub freed-append : (xs ys : List Entry) → freed_of (xs ++ ys) ≡ freed_of xs ++ freed_of ys
freed-append [] ys = refl
freed-append (Candidate i level ∷ xs) ys = freed-append xs ys
freed-append (Conflict k path ∷ xs) ys = freed-append xs ys
freed-append (Blocked hop pair ∷ xs) ys = freed-append xs ys
freed-append (Freed hop pair ∷ xs) ys = ap (λ (r : List Hop). hop ∷ r) (freed-append xs ys)
freed-append (Built a b ∷ xs) ys = freed-append xs ys

pub paths-append :
    (ps : List (List Tern)) (xs ys : List Entry) → paths_of kind.Split ps (xs ++ ys) ≡ paths_of kind.Split (paths_of kind.Split ps xs) ys
paths-append ps [] ys = refl
paths-append ps (Candidate i level ∷ xs) ys = paths-append ps xs ys
paths-append ps (Conflict kind.Split path ∷ xs) ys = paths-append (path ∷ ps) xs ys
paths-append ps (Conflict kind.Land path ∷ xs) ys = paths-append ps xs ys
paths-append ps (Conflict kind.Escape path ∷ xs) ys = paths-append ps xs ys
paths-append ps (Conflict kind.Stuck path ∷ xs) ys = paths-append ps xs ys
paths-append ps (Blocked hop pair ∷ xs) ys = paths-append [] xs ys
paths-append ps (Freed hop pair ∷ xs) ys = paths-append ps xs ys
paths-append ps (Built a b ∷ xs) ys = paths-append ps xs ys

-- there are at most as many blocked hops as entries
pub blocked_few : (entries : List Entry) → length (blocked_of entries) ≤ length entries
blocked_few [] = omega arith
blocked_few (Candidate i level ∷ xs) = omega (arith, blocked_few xs)
blocked_few (Conflict k path ∷ xs) = omega (arith, blocked_few xs)
blocked_few (Blocked hop pair ∷ xs) = omega (arith, blocked_few xs)
blocked_few (Freed hop pair ∷ xs) = omega (arith, blocked_few xs)
blocked_few (Built a b ∷ xs) = omega (arith, blocked_few xs)

-- candidates have no hop and no path
record SaysNothing (before : List Entry) : Type 0 where
  blocked : blocked_of before ≡ []
  freed : freed_of before ≡ []
  paths : (ps : List (List Tern)) → paths_of kind.Split ps before ≡ ps

abbrev tail : List Entry → List Entry
tail [] = []
tail (entry ∷ entries) = entries

conflict-later : (k : Kind) (path : List Tern) → phase (Conflict k path) ≡ 0 → ⊥
conflict-later kind.Split path e = omega (arith, e)
conflict-later kind.Land path e = omega (arith, e)
conflict-later kind.Escape path e = omega (arith, e)
conflict-later kind.Stuck path e = omega (arith, e)

candidates_say_nothing : (before : List Entry) → AreCandidates before → SaysNothing before
candidates_say_nothing [] h = record { blocked = refl; freed = refl; paths = λ ps. refl }
candidates_say_nothing (Candidate i level ∷ xs) h =
    let rest = candidates_say_nothing xs (λ j d b. h (suc j) d (omega (arith, b))) in
    record { blocked = rest.blocked; freed = rest.freed; paths = rest.paths }
candidates_say_nothing (Conflict k path ∷ xs) h = absurd (conflict-later k path (h 0 (Conflict k path) (omega arith)))
candidates_say_nothing (Blocked hop pair ∷ xs) h =
    let e : 1 ≡ 0 = h 0 (Blocked hop pair) (omega arith) in absurd (omega (arith, e))
candidates_say_nothing (Freed hop pair ∷ xs) h =
    let e : 2 ≡ 0 = h 0 (Freed hop pair) (omega arith) in absurd (omega (arith, e))
candidates_say_nothing (Built a b ∷ xs) h =
    let e : 3 ≡ 0 = h 0 (Built a b) (omega arith) in absurd (omega (arith, e))

-- what the entry of a blocked hop says, by the hops before it
abbrev BlockedIsTrue : Sides → List Bool → List Hop → Hop → List Bool → Type 0
BlockedIsTrue p equal before hop pair =
    let s = take p.left.states pair in
    let t = drop p.left.states pair in
    IsGoodHop p (blocked_aim before hop.next) (length before) hop s t × AgreeOn equal s t × LiesInNone (cubes_of before) s t

abbrev ConflictIsTrue : Sides → List Bool → List Hop → List Hop → List (List Tern) → List Tern → Type 0
ConflictIsTrue p equal blocked freed earlier path =
    IsConflict p (record { equal = equal; blocked = blocked; freed = freed }) Split earlier path

-- an entry of splitting is as true behind candidates, and to every search
true_behind :
    (search : Search) (before earlier : List Entry) (entry : Entry) → AreCandidates before → phase entry ≡ 1
    → IsTrueEntry (plain_search search.sides search.equal) earlier entry → IsTrueEntry search (before ++ earlier) entry
true_behind search before earlier (Candidate i level) c e h = absurd (omega (arith, e))
true_behind search before earlier (Conflict kind.Split path) c e h =
    let none = candidates_say_nothing before c in
    let blocked : blocked_of (before ++ earlier) ≡ blocked_of earlier =
    blocked-append before earlier ∙ ap (λ (r : List Hop). r ++ blocked_of earlier) none.blocked in
    let freed : freed_of (before ++ earlier) ≡ freed_of earlier =
    freed-append before earlier ∙ ap (λ (r : List Hop). r ++ freed_of earlier) none.freed in
    let paths : paths_of kind.Split [] (before ++ earlier) ≡ paths_of kind.Split [] earlier =
    paths-append [] before earlier ∙ ap (λ (r : List (List Tern)). paths_of kind.Split r earlier) (none.paths []) in
    subst (λ (bs : List Hop). ConflictIsTrue search.sides search.equal bs (freed_of (before ++ earlier)) (paths_of kind.Split [] (before ++ earlier)) path)
    (sym blocked)
    (subst (λ (fs : List Hop). ConflictIsTrue search.sides search.equal (blocked_of earlier) fs (paths_of kind.Split [] (before ++ earlier)) path)
    (sym freed)
    (subst (λ (ps : List (List Tern)). ConflictIsTrue search.sides search.equal (blocked_of earlier) (freed_of earlier) ps path) (sym paths) h))
true_behind search before earlier (Conflict kind.Land path) c e h = absurd (omega (arith, e))
true_behind search before earlier (Conflict kind.Escape path) c e h = absurd (omega (arith, e))
true_behind search before earlier (Conflict kind.Stuck path) c e h = absurd (omega (arith, e))
true_behind search before earlier (Blocked hop pair) c e h =
    let none = candidates_say_nothing before c in
    let blocked : blocked_of (before ++ earlier) ≡ blocked_of earlier =
    blocked-append before earlier ∙ ap (λ (r : List Hop). r ++ blocked_of earlier) none.blocked in
    subst (λ (bs : List Hop). BlockedIsTrue search.sides search.equal bs hop pair) (sym blocked) h
true_behind search before earlier (Freed hop pair) c e h = absurd (omega (arith, e))
true_behind search before earlier (Built a b) c e h = absurd (omega (arith, e))

-- candidates, and splitting behind them
data Stands (before entries : List Entry) (i : ℕ) (d : Entry) : Type 0 where
  early : i < length before → phase (get_or (before ++ entries) i d) ≡ 0 → Stands before entries i d
  late : length before ≤ i → phase (get_or (before ++ entries) i d) ≡ 1 → Stands before entries i d

module _ (search : Search) (before entries : List Entry) (cand : AreCandidates before)
    (work : AreWork search before) (split : AreSplitting search.sides search.equal entries) where
  behind_below : (i k : ℕ) → i ≡ length before + k → i < length (before ++ entries) → k < length entries
  behind_below i k e below = omega (arith, e, below, length-append before entries)

  stands : (i : ℕ) (d : Entry) → i < length (before ++ entries) → Stands before entries i d
  stands i d below = elim (below_or_behind (length before) i) [
    | inl b ↦ early b (ap phase (get_or_append_left before entries d i b) ∙ cand i d b)
    | inr r ↦
        let e : get_or (before ++ entries) i d ≡ get_or entries r.0 d =
        ap (λ (j : ℕ). get_or (before ++ entries) j d) r.1 ∙ get_or-append-add before entries r.0 d in
        late (omega (arith, r.1)) (ap phase e ∙ (split r.0 d (behind_below i r.0 r.1 below)).phase)
  ]

  at_most_one : (i : ℕ) (d : Entry) → Stands before entries i d → phase (get_or (before ++ entries) i d) ≤ 1
  at_most_one i d (early b e) = omega (arith, e)
  at_most_one i d (late b e) = omega (arith, e)

  never_back :
      (i j : ℕ) (d : Entry) → i < j → Stands before entries i d → Stands before entries j d
      → phase (get_or (before ++ entries) i d) ≤ phase (get_or (before ++ entries) j d)
  never_back i j d less (early b e) (early b' e') = omega (arith, e, e')
  never_back i j d less (early b e) (late b' e') = omega (arith, e, e')
  never_back i j d less (late b e) (early b' e') = absurd (omega (arith, b, b', less))
  never_back i j d less (late b e) (late b' e') = omega (arith, e, e')

  true_at : (i : ℕ) (d : Entry) → i < length (before ++ entries) → IsTrueEntry search (take i (before ++ entries)) (get_or (before ++ entries) i d)
  true_at i d below = elim (below_or_behind (length before) i) [
    | inl b ↦ at_both (IsTrueEntry search) _ _ _ _ (take-append-le i before entries (omega (arith, b))) (get_or_append_left before entries d i b)
        (work.each i d b)
    | inr r ↦
        let one = split r.0 d (behind_below i r.0 r.1 below) in
        let front : take i (before ++ entries) ≡ before ++ take r.0 entries =
        ap (λ (j : ℕ). take j (before ++ entries)) r.1 ∙ take-append-add before entries r.0 in
        let here : get_or (before ++ entries) i d ≡ get_or entries r.0 d =
        ap (λ (j : ℕ). get_or (before ++ entries) j d) r.1 ∙ get_or-append-add before entries r.0 d in
        at_both (IsTrueEntry search) _ _ _ _ front here
        (true_behind search before (take r.0 entries) (get_or entries r.0 d) cand one.phase one.true_one)
  ]

  pub works_behind : AreWork search (before ++ entries)
  works_behind = record {
    each = true_at;
    phases = λ i j d less below. never_back i j d less (stands i d (omega (arith, less, below))) (stands j d below);
    split = λ i d below later. absurd (omega (arith, later, at_most_one i d (stands i d below)));
    stuck = λ i d below later finds. absurd (omega (arith, later, at_most_one i d (stands i d below)));
  }

pub splitting_keeps : (p : Sides) (equal : List Bool) (entries : List Entry) → AreSplitting p equal entries → KeepsWork p equal entries
splitting_keeps p equal entries split search before sides marks cand work =
    works_behind search before entries cand work
    (subst (λ (q : Sides). AreSplitting q search.equal entries) (sym sides)
    (subst (λ (m : List Bool). AreSplitting p m entries) (sym marks) split))
