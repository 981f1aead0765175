-- Journals with conflicts of landing at their end.
use Rattle.std.proofs.Common.{◌≡◌, ℕ, suc, ◌<◌, ◌≤◌, ◌⊎◌, inl, inr, List, [], ◌∷◌, ◌++◌, length, take, refl, ap, arith}
use Rattle.std.specs.Prelude.{slice_index_or}
use Rattle.std.specs.List.{Contains}
use Rattle.std.proofs.lemmas.List.{get_or-map, take-map}
use Rattle.std.proofs.lemmas.List.Elements.{Contains-append_left, Contains-append_right, Contains-append_cases}
use Rattle.rst_value.specs.declared.tern.Tern.{Tern}
use Rattle.rst_pair.specs.declared.hop.Hop.{Hop}
use Rattle.rst_pair.specs.declared.query.Kind.TheVariants as kind
use Rattle.rst_pair.specs.declared.journal.Entry.{Entry}
use Rattle.rst_pair.specs.declared.journal.Entry.TheVariants.{Candidate, Conflict, Blocked, Freed, Built}
use Rattle.rst_pose.specs.Works.{blocked_of, paths_of, phase}
use Rattle.rst_landing.specs.Work.{HasNotLanded, land_conflicts}

-- conflicts add no hop
pub no_hop_more : (earlier : List Entry) (paths : List (List Tern)) → blocked_of (earlier ++ land_conflicts paths) ≡ blocked_of earlier
no_hop_more [] [] = refl
no_hop_more [] (path ∷ paths) = no_hop_more [] paths
no_hop_more (Candidate i level ∷ earlier) paths = no_hop_more earlier paths
no_hop_more (Conflict k path ∷ earlier) paths = no_hop_more earlier paths
no_hop_more (Blocked hop pair ∷ earlier) paths = ap (λ (hops : List Hop). hop ∷ hops) (no_hop_more earlier paths)
no_hop_more (Freed hop pair ∷ earlier) paths = no_hop_more earlier paths
no_hop_more (Built a b ∷ earlier) paths = no_hop_more earlier paths

-- nothing has landed in the rest either
rest_not_landed : (entry : Entry) (earlier : List Entry) → HasNotLanded (entry ∷ earlier) → HasNotLanded earlier
rest_not_landed entry earlier h i d below = h (suc i) d (omega (arith, below))

-- the paths of landing are those behind what hasn't landed
pub paths_behind :
    (earlier entries : List Entry) (paths : List (List Tern)) → HasNotLanded earlier
    → paths_of kind.Land paths (earlier ++ entries) ≡ paths_of kind.Land paths entries
paths_behind [] entries paths h = refl
paths_behind (Candidate i level ∷ earlier) entries paths h = paths_behind earlier entries paths (rest_not_landed _ earlier h)
paths_behind (Conflict kind.Split path ∷ earlier) entries paths h = paths_behind earlier entries paths (rest_not_landed _ earlier h)
paths_behind (Conflict kind.Land path ∷ earlier) entries paths h =
    let no : 3 < 3 = h 0 (Conflict kind.Land path) (omega arith) in absurd (omega (arith, no))
paths_behind (Conflict kind.Escape path ∷ earlier) entries paths h = paths_behind earlier entries paths (rest_not_landed _ earlier h)
paths_behind (Conflict kind.Stuck path ∷ earlier) entries paths h = paths_behind earlier entries paths (rest_not_landed _ earlier h)
paths_behind (Blocked hop pair ∷ earlier) entries paths h = paths_behind earlier entries paths (rest_not_landed _ earlier h)
paths_behind (Freed hop pair ∷ earlier) entries paths h = paths_behind earlier entries paths (rest_not_landed _ earlier h)
paths_behind (Built a b ∷ earlier) entries paths h =
    let no : 3 < 3 = h 0 (Built a b) (omega arith) in absurd (omega (arith, no))

-- each path of conflicts of landing is one of theirs, or stood before
pub paths_are :
    (paths so_far : List (List Tern)) (path : List Tern) → Contains (paths_of kind.Land so_far (land_conflicts paths)) path
    → Contains so_far path ⊎ Contains paths path
paths_are [] so_far path h = inl h
paths_are (first ∷ paths) so_far path h = elim (paths_are paths (first ∷ so_far) path h) [
  | inl before ↦ split first so_far paths path before
  | inr later ↦ inr (behind first paths path later)
]
  where
    behind : (x : List Tern) (xs : List (List Tern)) (y : List Tern) → Contains xs y → Contains (x ∷ xs) y
    behind x xs y h = Contains-append_right (x ∷ []) xs y h

    split : (x : List Tern) (so_far xs : List (List Tern)) (y : List Tern) → Contains (x ∷ so_far) y → Contains so_far y ⊎ Contains (x ∷ xs) y
    split x so_far xs y h = elim (Contains-append_cases (x ∷ []) so_far y h) [
      | inl first ↦ inr (Contains-append_left (x ∷ []) xs y first)
      | inr before ↦ inl before
    ]

pub phase_most : (entry : Entry) → phase entry ≤ 3
phase_most (Candidate i level) = omega arith
phase_most (Conflict kind.Split path) = omega arith
phase_most (Conflict kind.Land path) = omega arith
phase_most (Conflict kind.Escape path) = omega arith
phase_most (Conflict kind.Stuck path) = omega arith
phase_most (Blocked hop pair) = omega arith
phase_most (Freed hop pair) = omega arith
phase_most (Built a b) = omega arith

-- the conflict at a place
pub conflict_at :
    (paths : List (List Tern)) (j : ℕ) (d : Entry) → j < length paths
    → slice_index_or (land_conflicts paths) j d ≡ Conflict kind.Land (slice_index_or paths j [])
conflict_at paths j d below = get_or-map (λ path. Conflict kind.Land path) paths j [] d below

pub conflict_count : (paths : List (List Tern)) → length (land_conflicts paths) ≡ length paths
conflict_count [] = refl
conflict_count (path ∷ paths) = omega (arith, conflict_count paths)

pub first_conflicts : (paths : List (List Tern)) (j : ℕ) → take j (land_conflicts paths) ≡ land_conflicts (take j paths)
first_conflicts paths j = take-map (λ path. Conflict kind.Land path) j paths
