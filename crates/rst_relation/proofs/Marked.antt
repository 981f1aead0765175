-- The marked registers, and the front that has them.
use Rattle.std.proofs.Common.{◌≡◌, ◌∙◌, ℕ, zero, suc, ◌<◌, ◌≤◌, ◌+◌, ℤ, Bool, true, false, List, [], ◌∷◌, length, map, take, refl, ap, sym, subst, arith}
use Rattle.std.specs.Prelude.{slice_index_or, replicate, Result, Ok, Err, IfOk}
use Rattle.rst_outside.specs.declared.names.NoMemory.{NoMemory}
use Rattle.std.proofs.lemmas.List.{length-take-le}
use Rattle.rst_value.specs.declared.tern.Tern.{Tern}
use Rattle.rst_value.specs.declared.tern.Tern.TheVariants.{Zero, One, Unknown}
use Rattle.rst_gate.specs.Circuits.{Circuit, IsCircuit}
use Rattle.rst_gate.specs.ClosedSets.{IsWithin, IsClosedSet, next_support}
use Rattle.rst_gate.specs.TernMachine.{IsKnown, pattern_after}
use Rattle.rst_gate.specs.GateMachines.{terns_of}
use Rattle.rst_gate.proofs.Readings.{gates_keep_registers}
use Rattle.rst_pair.specs.declared.hop.Hop.{Hop}
use Rattle.rst_pair.specs.declared.query.Query.TheVariants.{Split, LandFree}
use Rattle.rst_pair.specs.declared.journal.Entry.{Entry}
use Rattle.rst_pair.specs.Sides.{AreSides}
use Rattle.rst_pair.specs.Fronts.{Front', IsFront}
use Rattle.rst_pair.specs.Hops.{AreHops}
use Rattle.rst_pose.specs.Posing.{IsPosable}
use Rattle.rst_pose.specs.Works.{HasNoCase}
use Rattle.rst_pairinv.specs.Blocking.{AreBlocked}
use Rattle.rst_pairinv.specs.Refining.{AreMarked}
use Rattle.rst_pairinv.proofs.Blocked.{are_hops, is_front}
use Rattle.rst_pairinv.proofs.Journals.{blocked_few}
use Rattle.rst_pairinv.proofs.Exact.{is_about, no_case}
use Rattle.rst_landing.specs.Landings.{AreKnownBehind, known_behind}
use Rattle.rst_replay.specs.Words.{AreRight, HaveEarlierNexts}
use Rattle.rst_relation.specs.Decisions.{one_design, is_bit, known_registers, AreMarkedBehind}
use Rattle.rst_relation.specs.Deciding.{IsAsked, IsRefined}

pub length-map-is : {A B : Type 0} (f : A → B) (xs : List A) → length (map f xs) ≡ length xs
length-map-is f [] = refl
length-map-is f (x ∷ xs) = omega (arith, length-map-is f xs)

-- the state behind the pattern has a place for each register
pattern_count :
    (c : Circuit) → IsCircuit c → (pattern : List (List Tern)) (cube : List Tern) → length cube ≡ c.states
    → length (pattern_after (terns_of c) cube pattern) ≡ c.states
pattern_count c is [] cube count = count
pattern_count c is (places ∷ pattern) cube count = pattern_count c is pattern ((terns_of c).step cube places) (gates_keep_registers c is cube places)

pub known_count : (c : Circuit) (pattern : List (List Tern)) → IsCircuit c → length (known_behind (terns_of c) pattern) ≡ c.states
known_count c pattern is = pattern_count c is pattern (replicate c.states Unknown) (all_places c.states)
  where
    all_places : (n : ℕ) → length (replicate n Unknown) ≡ n
    all_places zero = refl
    all_places (suc n) = omega (arith, all_places n)

within_count : (xs ys : List Bool) → IsWithin xs ys → length xs ≡ length ys
within_count [] [] w = refl
within_count [] (y ∷ ys) w = absurd w
within_count (x ∷ xs) [] w = absurd w
within_count (x ∷ xs) (y ∷ ys) w = omega (arith, within_count xs ys w.1)

pub marked_count : (c : Circuit) (pattern : List (List Tern)) (equal : List Bool) → IsCircuit c → AreMarkedBehind c pattern equal → length equal ≡ c.states
marked_count c pattern equal is marked =
    within_count equal (known_registers c pattern) marked.known ∙ length-map-is is_bit (known_behind (terns_of c) pattern) ∙ known_count c pattern is

-- what closing the known registers answers are the marked ones
pub marked_behind :
    (c : Circuit) (pattern : List (List Tern)) (known : List Bool) (result : Result (List Bool) NoMemory) → known ≡ known_registers c pattern
    → IfOk result (λ set. IsWithin set known) → IfOk result (λ set. IsClosedSet c set)
    → IfOk result (λ set. (other : List Bool) → IsWithin other known → IsClosedSet c other → IsWithin other set)
    → IfOk result (λ set. AreMarkedBehind c pattern set)
marked_behind c pattern known (Ok set) is within closed largest = record {
  known = subst (IsWithin set) is within;
  closed = closed;
  largest = λ other inside. largest other (subst (IsWithin other) (sym is) inside);
}
marked_behind c pattern known (Err e) is within closed largest = tt

pub are_marked :
    (c : Circuit) (pattern : List (List Tern)) (equal : List Bool) → IsCircuit c → AreMarkedBehind c pattern equal → AreMarked (one_design c) equal
are_marked c pattern equal is marked = record {
  count = marked_count c pattern equal is marked;
  closed = marked.closed;
  one_design = λ i e. refl;
}

is_known : (x : Tern) → is_bit x ≡ true → IsKnown x
is_known Zero e = tt
is_known One e = tt
is_known Unknown e = absurd (let f : false ≡ true = e in cc)

marked_known :
    (xs : List Tern) (equal : List Bool) (i : ℕ) → IsWithin equal (map is_bit xs) → slice_index_or equal i false ≡ true
    → IsKnown (slice_index_or xs i Unknown)
marked_known xs [] i w e = absurd (nowhere i e)
  where
    nowhere : (n : ℕ) → slice_index_or [] n false ≡ true → ⊥
    nowhere zero h = let f : false ≡ true = h in cc
    nowhere (suc n) h = let f : false ≡ true = h in cc
marked_known [] (b ∷ equal) i w e = absurd w
marked_known (x ∷ xs) (b ∷ equal) zero w e = is_known x (w.0 e)
marked_known (x ∷ xs) (b ∷ equal) (suc i) w e = marked_known xs equal i w.1 e

pub are_known :
    (c : Circuit) (pattern : List (List Tern)) (equal : List Bool) → AreMarkedBehind c pattern equal → AreKnownBehind (one_design c) equal pattern
are_known c pattern equal marked = λ i e. (marked_known (known_behind (terns_of c) pattern) equal i marked.known e, refl)

-- each hop is right, and its next hop stands before it
pub are_right : (c : Circuit) (hops : List Hop) → AreBlocked (one_design c) hops → AreRight (one_design c) hops
are_right c hops blocked i d below = (blocked i d below).right

pub nexts_are_earlier : (c : Circuit) (hops : List Hop) → AreBlocked (one_design c) hops → HaveEarlierNexts hops
nexts_are_earlier c hops blocked i d below = (are_hops (one_design c) hops blocked i d below).next

module _ (c : Circuit) (pattern : List (List Tern)) (budget : ℕ) (f : Front') (split : List (List ℤ)) (journal : List Entry)
    (sides : AreSides (one_design c)) (refined : IsRefined c pattern budget f split journal) where
  front : IsFront (one_design c) f
  front = is_front (one_design c) f (marked_count c pattern f.equal sides.left refined.marked) refined.none_freed refined.hops

  pub posable : IsAsked c pattern → budget ≤ 100000 → IsPosable (one_design c) f (LandFree pattern)
  posable asked few = record {
    within = record {
      left = asked.small;
      right = asked.small;
      front = front;
      blocked = omega (arith, few, refined.few, blocked_few journal, ap length refined.blocked);
      freed = omega (arith, ap length refined.none_freed);
    };
    speaks = asked.inputs;
    cycles = asked.cycles;
  }

  pub no_split : HasNoCase (one_design c) f Split
  no_split = no_case (one_design c) f split (is_about (one_design c) f sides (are_marked c pattern f.equal sides.left refined.marked) front) refined.refutes
