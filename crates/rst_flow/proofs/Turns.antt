-- Turns of the loops over units, slices and drives.
use Rattle.std.proofs.Common.{◌≡◌, ◌∙◌, refl, sym, ap, ℕ, zero, suc, ◌+◌, ◌<◌, ◌≤◌, nat_eq, Bool, cond, inl, inr, List, [], ◌∷◌, ◌++◌, length, get_or, drop, map, add-one, drop-cons, append_assoc}
use Rattle.std.proofs.lemmas.Bool.Decides.{eqb_tells}
use Rattle.std.proofs.lemmas.List.{at_drop_all}
use Rattle.rst_order.specs.Graphs.{Graph}
use Rattle.rst_net.specs.declared.signal.Slice.{Slice}
use Rattle.rst_net.specs.declared.unit.Driver.{Driver}
use Rattle.rst_net.specs.Units.{plain_driver}
use Rattle.rst_blocks.specs.Sets.{unit_targets}
use Rattle.rst_blocks.specs.Reads.{unit_reads}
use Rattle.rst_flow.specs.declared.drives.Drive.{Drive}
use Rattle.rst_flow.specs.Tables.{Table, row, picked, drives_at, feeding_all, own_of, graph_from}
use Rattle.rst_flow.proofs.Table.{drive_of}

no_more : {X : Type 0} (xs : List X) → xs ++ [] ≡ xs
no_more [] = refl
no_more (x ∷ xs) = ap (λ ys. x ∷ ys) (no_more xs)

-- ---- the rows of the table

picked_turn : (i unit : ℕ) (slice : Slice) (rest before after : List Drive) → (i ≡ slice.signal → after ≡ before ++ drive_of unit slice ∷ []) → ((i ≡ slice.signal → ⊥) → after ≡ before)
    → after ++ rest ≡ before ++ cond (nat_eq i slice.signal) (drive_of unit slice ∷ rest) rest
picked_turn i unit slice rest before after here there = elim (eqb_tells i slice.signal) [
  | inl t ↦
      ap (λ (xs : List Drive). xs ++ rest) (here t.1) ∙ append_assoc before (drive_of unit slice ∷ []) rest
      ∙ sym (ap (λ (b : Bool). before ++ cond b (drive_of unit slice ∷ rest) rest) t.0)
  | inr t ↦ ap (λ (xs : List Drive). xs ++ rest) (there t.1) ∙ sym (ap (λ (b : Bool). before ++ cond b (drive_of unit slice ∷ rest) rest) t.0)
]

-- one slice more
pub slice_turn : (i unit : ℕ) (slices : List Slice) (k : ℕ) (d : Slice) (before after : List Drive) → k < length slices
    → (i ≡ (get_or slices k d).signal → after ≡ before ++ drive_of unit (get_or slices k d) ∷ []) → ((i ≡ (get_or slices k d).signal → ⊥) → after ≡ before)
    → after ++ picked i unit (drop (k + 1) slices) ≡ before ++ picked i unit (drop k slices)
slice_turn i unit slices k d before after within here there =
    ap (λ n. after ++ picked i unit (drop n slices)) (add-one k) ∙ picked_turn i unit (get_or slices k d) (picked i unit (drop (suc k) slices)) before after here there
    ∙ sym (ap (λ (xs : List Slice). before ++ picked i unit xs) (drop-cons slices k d within))

pub empty_row : (table : Table) → ((i : ℕ) → row table i ≡ []) → (i : ℕ) → row (table ++ [] ∷ []) i ≡ []
empty_row [] none zero = refl
empty_row [] none (suc i) = refl
empty_row (r ∷ table) none zero = none 0
empty_row (r ∷ table) none (suc i) = empty_row table (λ j. none (suc j)) i

-- one unit more
pub unit_turn : (i : ℕ) (units : List Driver) (k : ℕ) (d : Driver) (slices : List Slice) (before after : List Drive) → k < length units
    → slices ≡ unit_targets (plain_driver (get_or units k d)) → after ≡ before ++ picked i k slices
    → after ++ drives_at i (k + 1) (map plain_driver (drop (k + 1) units)) ≡ before ++ drives_at i k (map plain_driver (drop k units))
unit_turn i units k d slices before after within are now =
    let rest = drives_at i (suc k) (map plain_driver (drop (suc k) units)) in
    ap (λ n. after ++ drives_at i n (map plain_driver (drop n units))) (add-one k)
    ∙ ap (λ (xs : List Drive). xs ++ rest) (now ∙ ap (λ (ss : List Slice). before ++ picked i k ss) are)
    ∙ append_assoc before (picked i k (unit_targets (plain_driver (get_or units k d)))) rest
    ∙ sym (ap (λ (us : List Driver). before ++ drives_at i k (map plain_driver us)) (drop-cons units k d within))

-- behind the last unit
pub unit_end : (i : ℕ) (units : List Driver) (k : ℕ) (drives : List Drive) → length units ≤ k → drives ++ drives_at i k (map plain_driver (drop k units)) ≡ drives
unit_end i units k drives past = at_drop_all (λ (us : List Driver). drives ++ drives_at i k (map plain_driver us)) units k past ∙ no_more drives

-- ---- the rows of the graph

pub graph_turn : (table : Table) (units : List Driver) (k : ℕ) (d : Driver) (found : List ℕ) (before after : Graph) → k < length units
    → found ≡ feeding_all table (own_of k (plain_driver (get_or units k d))) (unit_reads (plain_driver (get_or units k d))) → after ≡ before ++ found ∷ []
    → after ++ graph_from table (k + 1) (map plain_driver (drop (k + 1) units)) ≡ before ++ graph_from table k (map plain_driver (drop k units))
graph_turn table units k d found before after within are now =
    let rest = graph_from table (suc k) (map plain_driver (drop (suc k) units)) in
    ap (λ n. after ++ graph_from table n (map plain_driver (drop n units))) (add-one k)
    ∙ ap (λ (xs : Graph). xs ++ rest) (now ∙ ap (λ (f : List ℕ). before ++ f ∷ []) are)
    ∙ append_assoc before (feeding_all table (own_of k (plain_driver (get_or units k d))) (unit_reads (plain_driver (get_or units k d))) ∷ []) rest
    ∙ sym (ap (λ (us : List Driver). before ++ graph_from table k (map plain_driver us)) (drop-cons units k d within))

pub graph_end : (table : Table) (units : List Driver) (k : ℕ) (graph : Graph) → length units ≤ k → graph ++ graph_from table k (map plain_driver (drop k units)) ≡ graph
graph_end table units k graph past = at_drop_all (λ (us : List Driver). graph ++ graph_from table k (map plain_driver us)) units k past ∙ no_more graph
