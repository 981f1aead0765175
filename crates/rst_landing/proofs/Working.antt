-- Conflicts of landing are work behind work that hasn't landed.
use Rattle.std.proofs.Common.{◌≡◌, ◌∙◌, ℕ, zero, suc, ◌+◌, ◌-◌, ◌<◌, ◌≤◌, inl, inr, ℤ, List, [], ◌∷◌, ◌++◌, length, take, get_or, refl, sym, ap, subst, arith}
use Rattle.std.specs.Prelude.{slice_index_or}
use Rattle.std.specs.List.{Contains}
use Rattle.std.proofs.Math.Seq.{take-append-add}
use Rattle.std.proofs.lemmas.Bool.{cases_lt, false≢true}
use Rattle.std.proofs.lemmas.List.{get_or_append_left, get_or-append-add, take-append-le, get_or-take, length-append}
use Rattle.rst_value.specs.declared.tern.Tern.{Tern}
use Rattle.rst_clause.specs.Paths.{IsPath, ArePaths, AreDisjoint}
use Rattle.rst_pair.specs.declared.hop.Hop.{Hop}
use Rattle.rst_pair.specs.declared.query.Query.TheVariants.{Split, LandFree}
use Rattle.rst_pair.specs.declared.query.Kind.TheVariants as kind
use Rattle.rst_pair.specs.declared.journal.Entry.{Entry}
use Rattle.rst_pair.specs.declared.journal.Entry.TheVariants.{Conflict}
use Rattle.rst_pair.specs.Sides.{Sides}
use Rattle.rst_pair.specs.Fronts.{Front'}
use Rattle.rst_pose.specs.Posed.{posed}
use Rattle.rst_pose.specs.Works.{Search, AreWork, IsTrueEntry, HasNoCase, blocked_of, freed_of, phase}
use Rattle.rst_landing.specs.Work.{checking, HasNotLanded, land_conflicts, IsLandWork}
use Rattle.rst_landing.specs.Landings.{land_clauses}
use Rattle.rst_landing.proofs.Entries.{no_hop_more, paths_behind, paths_are, phase_most, conflict_at, conflict_count, first_conflicts}

-- the front with these blocked hops and these freed ones
abbrev with_hops : Front' → List Hop → List Hop → Front'
with_hops f blocked freed = record { equal = f.equal; blocked = blocked; freed = freed }

-- Split asks about blocked hops alone
split_freed :
    (p : Sides) (f : Front') (blocked freed : List Hop) → f.blocked ≡ blocked → HasNoCase p f Split → HasNoCase p (with_hops f blocked freed) Split
split_freed p f blocked freed same none =
    subst (λ (hops : List Hop). HasNoCase p (with_hops f hops freed) Split) same
    (λ bits case. none bits (record {
      count = case.count;
      holds = record {
        related = record { equal = case.holds.related.equal; outside = case.holds.related.outside };
        leaves = case.holds.leaves;
      };
    }))

-- and so does Land
land_path :
    (p : Sides) (f : Front') (pattern : List (List Tern)) (blocked freed : List Hop) (path : List Tern) → f.blocked ≡ blocked
    → IsPath (posed p f (LandFree pattern)).free (land_clauses p f pattern) path
    → IsPath (posed p (with_hops f blocked freed) (LandFree pattern)).free (land_clauses p (with_hops f blocked freed) pattern) path
land_path p f pattern blocked freed path same is =
    subst (λ (hops : List Hop). IsPath (posed p (with_hops f hops freed) (LandFree pattern)).free (land_clauses p (with_hops f hops freed) pattern) path) same is

-- a path in front of another is disjoint from it
earlier_apart :
    (free : ℕ) (clauses : List (List ℤ)) (paths : List (List Tern)) (j : ℕ) (other : List Tern) → ArePaths free clauses paths → j < length paths
    → Contains (take j paths) other → AreDisjoint other (slice_index_or paths j [])
earlier_apart free clauses paths j other are below h =
    let k : ℕ = h.0 in
    let before : k < j = omega (arith, h.1, count j paths) in
    let is : slice_index_or paths k [] ≡ other = read paths k [] other (omega (arith, before, below)) ∙ sym (get_or-take j paths k other before) ∙ h.2 in
    subst (λ (path : List Tern). AreDisjoint path (slice_index_or paths j [])) is (are.apart k j before below)
  where
    count : (n : ℕ) (xs : List (List Tern)) → length (take n xs) ≤ n
    count zero xs = omega arith
    count (suc n) [] = omega arith
    count (suc n) (x ∷ xs) = omega (arith, count n xs)

    read : (xs : List (List Tern)) (i : ℕ) (d e : List Tern) → i < length xs → slice_index_or xs i d ≡ get_or xs i e
    read [] i d e lt = absurd (omega arith)
    read (x ∷ xs) zero d e lt = refl
    read (x ∷ xs) (suc i) d e lt = read xs i d e (omega arith)

-- a path of the search, behind those before it
conflict_true :
    (p : Sides) (f : Front') (pattern : List (List Tern)) (bound : ℕ) (paths : List (List Tern)) (earlier : List Entry)
    → ArePaths (posed p f (LandFree pattern)).free (land_clauses p f pattern) paths → blocked_of earlier ≡ f.blocked → HasNotLanded earlier
    → (j : ℕ) → j < length paths
    → IsTrueEntry (checking p f.equal pattern bound) (earlier ++ land_conflicts (take j paths)) (Conflict kind.Land (slice_index_or paths j []))
conflict_true p f pattern bound paths earlier are same not_landed j below =
    let entries = earlier ++ land_conflicts (take j paths) in
    let blocked : f.blocked ≡ blocked_of entries = sym same ∙ sym (no_hop_more earlier (take j paths)) in
    record {
      is_path = land_path p f pattern (blocked_of entries) (freed_of entries) (slice_index_or paths j []) blocked (are.each j below);
      apart = λ other h.
          let later = subst (λ (xs : List (List Tern)). Contains xs other) (paths_behind earlier (land_conflicts (take j paths)) [] not_landed) h in
          elim (paths_are (take j paths) [] other later) [
            | inl none ↦ absurd (omega (arith, none.1))
            | inr one ↦ earlier_apart _ _ paths j other are below one
          ];
    }

true_at : (r : Search) (xs ys : List Entry) (d e : Entry) → xs ≡ ys → d ≡ e → IsTrueEntry r xs d → IsTrueEntry r ys e
true_at r xs ys d e same is h = subst (λ (x : Entry). IsTrueEntry r ys x) is (subst (λ (zs : List Entry). IsTrueEntry r zs d) same h)

-- each entry of the two parts
each_true :
    (r : Search) (earlier entries : List Entry) → AreWork r earlier
    → ((j : ℕ) (d : Entry) → j < length entries → IsTrueEntry r (earlier ++ take j entries) (slice_index_or entries j d))
    → (i : ℕ) (d : Entry) → i < length (earlier ++ entries)
    → IsTrueEntry r (take i (earlier ++ entries)) (slice_index_or (earlier ++ entries) i d)
each_true r earlier entries work later i d below = elim (cases_lt i (length earlier)) [
  | inl before ↦ true_at r _ _ _ _ (sym (take-append-le i earlier entries (omega (arith, before)))) (sym (get_or_append_left earlier entries d i before))
      (work.each i d before)
  | inr past ↦
      let k : ℕ = i - length earlier in
      let sum : length earlier + k ≡ i = omega (arith, past) in
      let below' : k < length entries = omega (arith, past, below, length-append earlier entries) in
      subst (λ (n : ℕ). IsTrueEntry r (take n (earlier ++ entries)) (slice_index_or (earlier ++ entries) n d)) sum
      (true_at r _ _ _ _ (sym (take-append-add earlier entries k)) (sym (get_or-append-add earlier entries k d)) (later k d below'))
]

-- the phase of an entry of the second part
phase_at :
    (earlier : List Entry) (paths : List (List Tern)) (i : ℕ) (d : Entry) → length earlier ≤ i → i < length (earlier ++ land_conflicts paths)
    → phase (slice_index_or (earlier ++ land_conflicts paths) i d) ≡ 3
phase_at earlier paths i d past below =
    let k : ℕ = i - length earlier in
    let sum : length earlier + k ≡ i = omega (arith, past) in
    let below' : k < length paths = omega (arith, past, below, length-append earlier (land_conflicts paths), conflict_count paths) in
    subst (λ (n : ℕ). phase (slice_index_or (earlier ++ land_conflicts paths) n d) ≡ 3) sum
    (ap phase (get_or-append-add earlier (land_conflicts paths) k d ∙ conflict_at paths k d below'))

phases_rise :
    (r : Search) (earlier : List Entry) (paths : List (List Tern)) → AreWork r earlier → (i j : ℕ) (d : Entry) → i < j
    → j < length (earlier ++ land_conflicts paths)
    → phase (slice_index_or (earlier ++ land_conflicts paths) i d) ≤ phase (slice_index_or (earlier ++ land_conflicts paths) j d)
phases_rise r earlier paths work i j d lt below = elim (cases_lt j (length earlier)) [
  | inl before ↦
      let at_i = ap phase (get_or_append_left earlier (land_conflicts paths) d i (omega (arith, lt, before))) in
      let at_j = ap phase (get_or_append_left earlier (land_conflicts paths) d j before) in
      let rises = work.phases i j d lt before in
      omega (arith, at_i, at_j, rises)
  | inr past ↦
      let last = phase_at earlier paths j d past below in
      let most = phase_most (slice_index_or (earlier ++ land_conflicts paths) i d) in
      omega (arith, last, most)
]

work_more :
    (p : Sides) (f : Front') (pattern : List (List Tern)) (paths : List (List Tern))
    → ArePaths (posed p f (LandFree pattern)).free (land_clauses p f pattern) paths → HasNoCase p f Split
    → (earlier : List Entry) (bound : ℕ) → AreWork (checking p f.equal pattern bound) earlier → blocked_of earlier ≡ f.blocked → HasNotLanded earlier
    → AreWork (checking p f.equal pattern bound) (earlier ++ land_conflicts paths)
work_more p f pattern paths are none earlier bound work same not_landed =
    let r : Search = checking p f.equal pattern bound in
    let entries = land_conflicts paths in
    record {
      each = each_true r earlier entries work (λ j d below.
          let below' : j < length paths = omega (arith, below, conflict_count paths) in
          true_at r _ _ _ _ (ap (λ (xs : List Entry). earlier ++ xs) (sym (first_conflicts paths j))) (sym (conflict_at paths j d below'))
          (conflict_true p f pattern bound paths earlier are same not_landed j below'));
      phases = phases_rise r earlier paths work;
      split = λ i d below past. split_freed p f (blocked_of (earlier ++ entries)) (freed_of (earlier ++ entries)) (sym same ∙ sym (no_hop_more earlier paths)) none;
      stuck = λ i d below past finds. absurd (false≢true finds);
    }

-- the paths of a search as work
pub land_work :
    (p : Sides) (f : Front') (pattern : List (List Tern)) (left : ℕ) (paths : List (List Tern)) (entries : List Entry)
    → ArePaths (posed p f (LandFree pattern)).free (land_clauses p f pattern) paths → length paths ≤ left → HasNoCase p f Split
    → entries ≡ land_conflicts paths → IsLandWork p f pattern left entries
land_work p f pattern left paths entries are few none is = record {
  paths = paths;
  conflicts = is;
  few = omega (arith, ap length is, conflict_count paths, few);
  work = λ earlier bound work same not_landed.
      subst (λ (xs : List Entry). AreWork (checking p f.equal pattern bound) (earlier ++ xs)) (sym is)
      (work_more p f pattern paths are none earlier bound work same not_landed);
}
