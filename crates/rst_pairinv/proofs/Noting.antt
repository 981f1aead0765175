-- What is noted keeps hops and work together.
use Rattle.std.proofs.Common.{◌≡◌, ◌∙◌, ℕ, zero, suc, ◌<◌, ◌+◌, inl, inr, ℤ, Bool, List, [], ◌∷◌, ◌++◌, length, get_or, map, take, drop, refl, ap, sym, subst, arith, append_assoc, length-append}
use Rattle.std.proofs.Math.Seq.{take-append_seam, drop-append_seam, get_or-append_seam}
use Rattle.std.proofs.lemmas.List.{append-nil, get_or_append_left}
use Rattle.std.specs.List.{Contains}
use Rattle.std.proofs.lemmas.List.Elements.{Contains-push, Contains-append_left, Contains-append_cases}
use Rattle.rst_value.specs.declared.tern.Tern.{Tern}
use Rattle.rst_gate.specs.ClosedSets.{AgreeOn}
use Rattle.rst_clause.specs.Paths.{AreDisjoint, IsPath, ArePaths}
use Rattle.rst_pair.specs.declared.hop.Hop.{Hop}
use Rattle.rst_pair.specs.declared.query.Query.TheVariants.{Split}
use Rattle.rst_pair.specs.declared.query.Kind.TheVariants as kind
use Rattle.rst_pair.specs.declared.journal.Entry.{Entry}
use Rattle.rst_pair.specs.declared.journal.Entry.TheVariants.{Blocked}
use Rattle.rst_pair.specs.Sides.{Sides, IsPair, Holds}
use Rattle.rst_pair.specs.Aims.{LiesInNone}
use Rattle.rst_pair.specs.Hops.{cubes_of, blocked_aim}
use Rattle.rst_pair.specs.Fronts.{Front', IsRelated}
use Rattle.rst_pose.specs.Posed.{posed}
use Rattle.rst_pose.specs.Works.{blocked_of, freed_of, paths_of, IsGoodHop, IsConflict, IsTrueEntry}
use Rattle.rst_pairinv.specs.declared.block.Refining.{Refining}
use Rattle.rst_pairinv.specs.Blocking.{IsBlockedHop, AreBlocked}
use Rattle.rst_pairinv.specs.Turns.{plain_search, IsSplitEntry, AreSplitting, IsRefining, IsFresh, Notes, conflict_of, clauses_posed}
use Rattle.rst_pairinv.proofs.Lists.{each_more}
use Rattle.rst_pairinv.proofs.Journals.{blocked-append, freed-append, paths-append}

-- the entry of a blocked hop, behind hops
abbrev BlockedIsTrue : Sides → List Bool → List Hop → Hop → List Bool → List Bool → Type 0
BlockedIsTrue p equal before hop s t =
    IsGoodHop p (blocked_aim before hop.next) (length before) hop s t × AgreeOn equal s t × LiesInNone (cubes_of before) s t

blocked_is_true :
    (p : Sides) (equal : List Bool) (before : List Hop) (entries : List Entry) (hop : Hop) (s t : List Bool) → blocked_of entries ≡ before
    → IsBlockedHop p before hop → IsPair p s t → Holds hop.cube s t → AgreeOn equal s t → LiesInNone (cubes_of before) s t
    → IsTrueEntry (plain_search p equal) entries (Blocked hop (s ++ t))
blocked_is_true p equal before entries hop s t same good pair holds agree outside =
    let count : length s ≡ p.left.states = pair.0 in
    let left : take p.left.states (s ++ t) ≡ s = subst (λ (n : ℕ). take n (s ++ t) ≡ s) count (take-append_seam s t) in
    let right : drop p.left.states (s ++ t) ≡ t = subst (λ (n : ℕ). drop n (s ++ t) ≡ t) count (drop-append_seam s t) in
    let plain : BlockedIsTrue p equal before hop s t = (
      record {
        fits = good.fits;
        right = good.right;
        passes = good.passes;
        widest = good.widest;
        pair = pair;
        holds = holds;
      },
      agree,
      outside,
    ) in
    subst (λ (hops : List Hop). BlockedIsTrue p equal hops hop (take p.left.states (s ++ t)) (drop p.left.states (s ++ t))) (sym same)
    (subst (λ (x : List Bool). BlockedIsTrue p equal before hop x (drop p.left.states (s ++ t))) (sym left)
    (subst (λ (x : List Bool). BlockedIsTrue p equal before hop s x) (sym right) plain))

pub hop_noted :
    (p : Sides) (old new : Refining) (hop : Hop) (s t both : List Bool) → both ≡ s ++ t → IsRefining p old → Notes hop both old new
    → IsBlockedHop p old.front.blocked hop → IsPair p s t → Holds hop.cube s t → IsRelated old.front s t → IsRefining p new
hop_noted p old new hop s t both is at noted good pair holds related =
    let equal : new.front.equal ≡ old.front.equal = ap (λ (f : Front'). f.equal) noted.front in
    let hops : new.front.blocked ≡ old.front.blocked ++ hop ∷ [] = ap (λ (f : Front'). f.blocked) noted.front in
    let entry = blocked_is_true p old.front.equal old.front.blocked old.journal hop s t at.blocked good pair holds related.equal related.outside in
    let entry' = subst (λ (b : List Bool). IsTrueEntry (plain_search p old.front.equal) old.journal (Blocked hop b)) (sym is) entry in
    record {
      count = ap length equal ∙ at.count;
      none_freed = ap (λ (f : Front'). f.freed) noted.front ∙ at.none_freed;
      hops = each_more (IsBlockedHop p) old.front.blocked new.front.blocked hop hops at.hops good;
      blocked = ap blocked_of noted.journal ∙ blocked-append old.journal (Blocked hop both ∷ [])
          ∙ ap (λ (hs : List Hop). hs ++ hop ∷ []) at.blocked ∙ sym hops;
      freed = ap freed_of noted.journal ∙ freed-append old.journal (Blocked hop both ∷ []) ∙ append-nil (freed_of old.journal) ∙ at.freed;
      work = subst (λ (marks : List Bool). AreSplitting p marks new.journal) (sym equal)
          (each_more (IsSplitEntry p old.front.equal) old.journal new.journal (Blocked hop both) noted.journal at.work
          (record { phase = refl; true_one = entry' }));
    }

pub fresh_noted : (old new : Refining) (hop : Hop) (both : List Bool) → Notes hop both old new → IsFresh new.journal
fresh_noted old new hop both noted = ap (paths_of kind.Split []) noted.journal ∙ paths-append [] old.journal (Blocked hop both ∷ [])

pub longer_noted : (old new : Refining) (hop : Hop) (both : List Bool) → Notes hop both old new → length new.journal ≡ length old.journal + 1
longer_noted old new hop both noted = omega (arith, ap length noted.journal, length-append old.journal (Blocked hop both ∷ []))

-- paths of the question, behind those that are noted
abbrev front_of_entries : List Bool → List Entry → Front'
front_of_entries equal entries = record { equal = equal; blocked = blocked_of entries; freed = freed_of entries }

abbrev PathsOf : Sides → Front' → List (List Tern) → Type 0
PathsOf p f paths = ArePaths (posed p f Split).free (clauses_posed p f) paths

-- the path behind others is apart from them
path_apart : (free : ℕ) (clauses : List (List ℤ)) (done : List (List Tern)) (path : List Tern) (rest : List (List Tern)) (other : List Tern)
    → ArePaths free clauses (done ++ path ∷ rest) → Contains done other → AreDisjoint other path
path_apart free clauses done path rest other paths has =
    let all = done ++ path ∷ rest in
    let below : has.0 < length done = has.1 in
    let here : get_or all (length done) [] ≡ path = get_or-append_seam done path rest [] in
    let there : get_or all has.0 [] ≡ other = get_or_append_left done (path ∷ rest) [] has.0 below ∙ any_default done has.0 [] other below ∙ has.2 in
    subst (λ (x : List Tern). AreDisjoint x path) there
    (subst (λ (x : List Tern). AreDisjoint (get_or all has.0 []) x) here
    (paths.apart has.0 (length done) below (omega (arith, length-append done (path ∷ rest)))))
  where
    any_default : (xs : List (List Tern)) (i : ℕ) (d e : List Tern) → i < length xs → get_or xs i d ≡ get_or xs i e
    any_default [] i d e below = absurd (omega (arith, below))
    any_default (x ∷ xs) zero d e below = refl
    any_default (x ∷ xs) (suc i) d e below = any_default xs i d e (omega (arith, below))

module _ (p : Sides) (f : Front') where
  paths_noted :
      (done rest : List (List Tern)) (entries : List Entry) → front_of_entries f.equal entries ≡ f → AreSplitting p f.equal entries
      → ((other : List Tern) → Contains (paths_of kind.Split [] entries) other → Contains done other) → PathsOf p f (done ++ rest)
      → AreSplitting p f.equal (entries ++ map conflict_of rest)
  paths_noted done [] entries front work known paths = subst (AreSplitting p f.equal) (sym (append-nil entries)) work
  paths_noted done (path ∷ rest) entries front work known paths =
      let more = entries ++ conflict_of path ∷ [] in
      let blocked : blocked_of more ≡ blocked_of entries = blocked-append entries (conflict_of path ∷ []) ∙ append-nil (blocked_of entries) in
      let freed : freed_of more ≡ freed_of entries = freed-append entries (conflict_of path ∷ []) ∙ append-nil (freed_of entries) in
      let same : front_of_entries f.equal more ≡ f =
      ap (λ (hops : List Hop). record { equal = f.equal; blocked = hops; freed = freed_of more }) blocked
      ∙ ap (λ (hops : List Hop). record { equal = f.equal; blocked = blocked_of entries; freed = hops }) freed ∙ front in
      let is_path : IsPath (posed p f Split).free (clauses_posed p f) path =
      subst (IsPath (posed p f Split).free (clauses_posed p f)) (get_or-append_seam done path rest [])
      (paths.each (length done) (omega (arith, length-append done (path ∷ rest)))) in
      let conflict : IsConflict p f Split (paths_of kind.Split [] entries) path = record {
        is_path = is_path;
        apart = λ other has. path_apart (posed p f Split).free (clauses_posed p f) done path rest other paths (known other has);
      } in
      let entry : IsTrueEntry (plain_search p f.equal) entries (conflict_of path) =
      subst (λ (g : Front'). IsConflict p g Split (paths_of kind.Split [] entries) path) (sym front) conflict in
      let step : AreSplitting p f.equal more =
      each_more (IsSplitEntry p f.equal) entries more (conflict_of path) refl work (record { phase = refl; true_one = entry }) in
      let now : paths_of kind.Split [] more ≡ path ∷ paths_of kind.Split [] entries = paths-append [] entries (conflict_of path ∷ []) in
      subst (AreSplitting p f.equal) (append_assoc entries (conflict_of path ∷ []) (map conflict_of rest))
      (paths_noted (done ++ path ∷ []) rest more same step
      (λ other has. elim (Contains-append_cases (path ∷ []) (paths_of kind.Split [] entries) other
      (subst (λ (ps : List (List Tern)). Contains ps other) now has)) [
        | inl first ↦ subst (Contains (done ++ path ∷ [])) (one path other first) (Contains-push done path)
        | inr later ↦ Contains-append_left done (path ∷ []) other (known other later)
      ])
      (subst (PathsOf p f) (sym (append_assoc done (path ∷ []) rest)) paths))
    where
      one : (x y : List Tern) → Contains (x ∷ []) y → x ≡ y
      one x y (zero, below, e) = e
      one x y (suc i, below, e) = absurd (omega (arith, below))

conflicts_no_hops : (paths : List (List Tern)) → (blocked_of (map conflict_of paths) ≡ []) × (freed_of (map conflict_of paths) ≡ [])
conflicts_no_hops [] = (refl, refl)
conflicts_no_hops (path ∷ paths) = conflicts_no_hops paths

pub all_noted :
    (p : Sides) (old new : Refining) (paths : List (List Tern)) → IsRefining p old → IsFresh old.journal
    → ArePaths (posed p old.front Split).free (clauses_posed p old.front) paths → new.front ≡ old.front
    → new.journal ≡ old.journal ++ map conflict_of paths → IsRefining p new
all_noted p old new paths at fresh are same more =
    let front : front_of_entries old.front.equal old.journal ≡ old.front =
    ap (λ (hops : List Hop). record { equal = old.front.equal; blocked = hops; freed = freed_of old.journal }) at.blocked
    ∙ ap (λ (hops : List Hop). record { equal = old.front.equal; blocked = old.front.blocked; freed = hops }) (at.freed ∙ sym at.none_freed) in
    let none = conflicts_no_hops paths in
    let hops : new.front.blocked ≡ old.front.blocked = ap (λ (f : Front'). f.blocked) same in
    let equal : new.front.equal ≡ old.front.equal = ap (λ (f : Front'). f.equal) same in
    let work : AreSplitting p old.front.equal (old.journal ++ map conflict_of paths) =
    paths_noted p old.front [] paths old.journal front at.work (λ other has. subst (λ (ps : List (List Tern)). Contains ps other) fresh has) are in
    record {
      count = ap length equal ∙ at.count;
      none_freed = ap (λ (f : Front'). f.freed) same ∙ at.none_freed;
      hops = subst (AreBlocked p) (sym hops) at.hops;
      blocked = ap blocked_of more ∙ blocked-append old.journal (map conflict_of paths) ∙ ap (λ (hs : List Hop). blocked_of old.journal ++ hs) none.0
          ∙ append-nil (blocked_of old.journal) ∙ at.blocked ∙ sym hops;
      freed = ap freed_of more ∙ freed-append old.journal (map conflict_of paths) ∙ ap (λ (hs : List Hop). freed_of old.journal ++ hs) none.1
          ∙ append-nil (freed_of old.journal) ∙ at.freed;
      work = subst (λ (marks : List Bool). AreSplitting p marks new.journal) (sym equal)
          (subst (AreSplitting p old.front.equal) (sym more) work);
    }

pub length_conflicts : (paths : List (List Tern)) → length (map conflict_of paths) ≡ length paths
length_conflicts [] = refl
length_conflicts (path ∷ paths) = omega (arith, length_conflicts paths)
