-- The graph that the code makes is the one of the units.
use Rattle.std.proofs.Common.{◌≡◌, ℕ, zero, suc, ◌+◌, ◌<◌, nat_eq, Bool, true, false, not, ◌&&◌, inl, inr, List, [], ◌∷◌, length, get_or, refl, sym, ◌∙◌, ap, subst, arith, Option, Some, None}
use Rattle.std.specs.List.{Contains, slice_get}
use Rattle.std.proofs.lemmas.Bool.{eqb-true, eq-eqb, cases_lt}
use Rattle.std.proofs.lemmas.List.{get_or_past}
use Rattle.rst_order.specs.Graphs.{Graph, Precedes, IsGraph}
use Rattle.rst_net.specs.declared.signal.Slice.{Slice}
use Rattle.rst_net.specs.Units.{PlainDriver, Assign, Process}
use Rattle.rst_cycle.specs.Drivers.{target_has, slice_has, drives}
use Rattle.rst_blocks.specs.Sets.{unit_targets}
use Rattle.rst_blocks.specs.Reads.{unit_reads}
use Rattle.rst_blocks.proofs.Targets.{targets_in-sets}
use Rattle.rst_flow.specs.declared.drives.Drive.{Drive}
use Rattle.rst_flow.specs.Edges.{is_block, IsEdge, IsUnitGraph}
use Rattle.rst_flow.specs.Tables.{Table, row, IsTable, drives_at, is_own, overlap, is_feeding, feeding, feeding_all, own_of, graph_from}
use Rattle.rst_flow.proofs.Members.{In, in_left, in_right, in_either, in_cond, cond_in, cond_here, at_in, at_below, below_at, contains_in, in_contains, any_in, in_any}
use Rattle.rst_flow.proofs.Bits.{Common, slice_has-has, has-slice_has, overlap-common, common-overlap}
use Rattle.rst_flow.proofs.Table.{drive_of, FromUnit, drives_from, from_drives}

pub unit_targets-drives : (unit : PlainDriver) (i p : ℕ) → target_has (unit_targets unit) i p ≡ drives unit i p
unit_targets-drives (Assign set) i p = refl
unit_targets-drives (Process process) i p = targets_in-sets process.body i p

pub zero_plus : (n : ℕ) → n ≡ 0 + n
zero_plus n = omega arith

both : (a b : Bool) → (a && b) ≡ true → (a ≡ true) × (b ≡ true)
both true b e = (refl, e)
both false b e = absurd cc

-- ---- who feeds a slice

pub record Feeder (own : Option ℕ) (slice : Slice) (drives : List Drive) (unit : ℕ) : Type 0 where
  pub drive : Drive
  pub member : In drive drives
  pub foreign : is_own own unit ≡ false
  pub common : Common drive slice
  pub number : drive.unit ≡ unit

not_true : (b : Bool) → not b ≡ true → b ≡ false
not_true true e = absurd cc
not_true false e = refl

pub feeding_from : (own : Option ℕ) (slice : Slice) (drives : List Drive) (unit : ℕ) → In unit (feeding own slice drives) → Feeder own slice drives unit
feeding_from own slice [] unit h = absurd h
feeding_from own slice (drive ∷ drives) unit h = elim (in_cond (is_feeding own slice drive) drive.unit unit (feeding own slice drives) h) [
  | inl here ↦
      let parts = both (not (is_own own drive.unit)) (overlap drive slice) here.0 in
      record {
        drive = drive;
        member = inl refl;
        foreign = subst (λ u. is_own own u ≡ false) here.1 (not_true (is_own own drive.unit) parts.0);
        common = overlap-common drive slice parts.1;
        number = here.1;
      }
  | inr later ↦
      let r = feeding_from own slice drives unit later in
      record { drive = r.drive; member = inr r.member; foreign = r.foreign; common = r.common; number = r.number }
]

pub from_feeding : (own : Option ℕ) (slice : Slice) (drives : List Drive) (drive : Drive) → In drive drives → is_own own drive.unit ≡ false → Common drive slice
    → In drive.unit (feeding own slice drives)
from_feeding own slice [] drive h foreign common = absurd h
from_feeding own slice (d ∷ drives) drive (inl same) foreign common =
    subst (λ (z : Drive). In z.unit (feeding own slice (d ∷ drives))) same
    (cond_here (is_feeding own slice d) d.unit (feeding own slice drives)
    (subst (λ (z : Drive). is_feeding own slice z ≡ true) (sym same) (made (is_own own drive.unit) (overlap drive slice) foreign (common-overlap drive slice common))))
  where
    made : (a b : Bool) → a ≡ false → b ≡ true → (not a && b) ≡ true
    made true b e f = absurd cc
    made false b e f = f
from_feeding own slice (d ∷ drives) drive (inr h) foreign common =
    cond_in (is_feeding own slice d) d.unit drive.unit (feeding own slice drives) (from_feeding own slice drives drive h foreign common)

pub record FeederOf (table : Table) (own : Option ℕ) (slices : List Slice) (unit : ℕ) : Type 0 where
  pub slice : Slice
  pub member : In slice slices
  pub feeder : Feeder own slice (row table slice.signal) unit

pub all_from : (table : Table) (own : Option ℕ) (slices : List Slice) (unit : ℕ) → In unit (feeding_all table own slices) → FeederOf table own slices unit
all_from table own [] unit h = absurd h
all_from table own (slice ∷ slices) unit h = elim (in_either unit (feeding own slice (row table slice.signal)) (feeding_all table own slices) h) [
  | inl here ↦ record { slice = slice; member = inl refl; feeder = feeding_from own slice (row table slice.signal) unit here }
  | inr later ↦ let r = all_from table own slices unit later in record { slice = r.slice; member = inr r.member; feeder = r.feeder }
]

pub from_all : (table : Table) (own : Option ℕ) (slices : List Slice) (slice : Slice) (unit : ℕ) → In slice slices → In unit (feeding own slice (row table slice.signal))
    → In unit (feeding_all table own slices)
from_all table own [] slice unit h fed = absurd h
from_all table own (s ∷ slices) slice unit (inl same) fed =
    in_left unit (feeding own s (row table s.signal)) (feeding_all table own slices) (subst (λ (z : Slice). In unit (feeding own z (row table z.signal))) (sym same) fed)
from_all table own (s ∷ slices) slice unit (inr h) fed =
    in_right unit (feeding own s (row table s.signal)) (feeding_all table own slices) (from_all table own slices slice unit h fed)

-- ---- the rows of the graph

pub graph-length : (table : Table) (k : ℕ) (units : List PlainDriver) → length (graph_from table k units) ≡ length units
graph-length table k [] = refl
graph-length table k (driver ∷ units) = ap suc (graph-length table (suc k) units)

pub graph-at : (table : Table) (k b : ℕ) (units : List PlainDriver) (driver : PlainDriver) → slice_get units b ≡ Some driver
    → get_or (graph_from table k units) b [] ≡ feeding_all table (own_of (k + b) driver) (unit_reads driver)
graph-at table k b [] driver at = absurd (none_some driver at)
  where
    none_some : {X : Type 0} (x : X) → ◌≡◌ {A = Option X} None (Some x) → ⊥
    none_some x e = cc
graph-at table k zero (u ∷ units) driver at =
    let same : u ≡ driver = same_some u driver at in
    let number : k ≡ k + 0 = omega arith in
    subst (λ n. feeding_all table (own_of k u) (unit_reads u) ≡ feeding_all table (own_of n driver) (unit_reads driver)) number
    (ap (λ (d : PlainDriver). feeding_all table (own_of k d) (unit_reads d)) same)
  where
    same_some : {X : Type 0} (x y : X) → Some x ≡ Some y → x ≡ y
    same_some x y e = cc
graph-at table k (suc b) (u ∷ units) driver at =
    let number : suc k + b ≡ k + suc b = omega arith in
    subst (λ n. get_or (graph_from table (suc k) units) b [] ≡ feeding_all table (own_of n driver) (unit_reads driver)) number (graph-at table (suc k) b units driver at)

graph-row : (table : Table) (b : ℕ) (units : List PlainDriver) (driver : PlainDriver) → slice_get units b ≡ Some driver
    → get_or (graph_from table 0 units) b [] ≡ feeding_all table (own_of b driver) (unit_reads driver)
graph-row table b units driver at =
    subst (λ n. get_or (graph_from table 0 units) b [] ≡ feeding_all table (own_of n driver) (unit_reads driver)) (sym (zero_plus b)) (graph-at table 0 b units driver at)

-- ---- its edges

module _ (count : ℕ) (units : List PlainDriver) (table : Table) (is : IsTable count units table) where
  abbrev graph : Graph
  graph = graph_from table 0 units

  -- a row of the table that has a drive is that of one of the signals
  row_drive : (i : ℕ) (drive : Drive) → In drive (row table i) → (i < count) × FromUnit i 0 units drive
  row_drive i drive h = elim (cases_lt i count) [
    | inl below ↦ (below, drives_from i 0 units drive (subst (λ (ds : List Drive). In drive ds) (is.rows i below) h))
    | inr past ↦ absurd (subst (λ (ds : List Drive). In drive ds) (get_or_past table i [] (omega (arith, is.signals))) h)
  ]

  not_own_of : (a b : ℕ) (driver : PlainDriver) → is_own (own_of b driver) a ≡ false → a ≡ b → is_block driver ≡ false
  not_own_of a b (Assign set) e same = refl
  not_own_of a b (Process process) e same = let f = eq-eqb b a (sym same) in absurd cc

  own_foreign : (a b : ℕ) (driver : PlainDriver) → (a ≡ b → is_block driver ≡ false) → is_own (own_of b driver) a ≡ false
  own_foreign a b (Assign set) h = refl
  own_foreign a b (Process process) h = apart b a (λ e. let f = h (sym e) in absurd cc)
    where
      apart : (b a : ℕ) → (b ≡ a → ⊥) → nat_eq b a ≡ false
      apart b a ne = cases (nat_eq b a) refl
        where
          cases : (x : Bool) → nat_eq b a ≡ x → nat_eq b a ≡ false
          cases true e = absurd (ne (eqb-true b a e))
          cases false e = e

  sound : (a b : ℕ) → Precedes graph a b → IsEdge count units a b
  sound a b h = elim (cases_lt b (length units)) [
    | inl below ↦
        let behind = below_at units b below in
        let here : In a (feeding_all table (own_of b behind.0) (unit_reads behind.0)) =
        subst (λ (xs : List ℕ). In a xs) (graph-row table b units behind.0 behind.1) (contains_in (get_or graph b []) a h) in
        edge a b behind.0 behind.1 (all_from table (own_of b behind.0) (unit_reads behind.0) a here)
    | inr past ↦ absurd (contains_in [] a (subst (λ (xs : List ℕ). Contains xs a) (get_or_past graph b [] (omega (arith, graph-length table 0 units))) h))
  ]
    where
      edge : (a b : ℕ) (behind : PlainDriver) → slice_get units b ≡ Some behind → FeederOf table (own_of b behind) (unit_reads behind) a → IsEdge count units a b
      edge a b behind at f =
          let drive = f.feeder.drive in
          let r = row_drive f.slice.signal drive f.feeder.member in
          let u = r.1 in
          let number : u.place ≡ a = zero_plus u.place ∙ sym u.number ∙ f.feeder.number in
          let low : u.slice.low ≡ drive.low = ap (λ (d : Drive). d.low) u.same in
          let width : u.slice.width ≡ drive.width = ap (λ (d : Drive). d.width) u.same in
          let common = f.feeder.common in
          let driven = in_any (slice_has f.slice.signal common.place) u.slice (unit_targets u.driver) u.member
          (has-slice_has u.slice f.slice.signal common.place (record { signal = u.signal; from = omega (arith, common.drive_from); below = omega (arith, common.drive_below) })) in
          let read = in_any (slice_has f.slice.signal common.place) f.slice (unit_reads behind) f.member
          (has-slice_has f.slice f.slice.signal common.place (record { signal = refl; from = common.slice_from; below = common.slice_below })) in
          record {
            before = u.driver;
            behind = behind;
            at_a = subst (λ n. slice_get units n ≡ Some u.driver) number u.at;
            at_b = at;
            feeds = record {
              signal = f.slice.signal;
              place = common.place;
              known = r.0;
              driven = sym (unit_targets-drives u.driver f.slice.signal common.place) ∙ driven;
              read = read;
            };
            not_own = not_own_of a b behind f.feeder.foreign;
          }

  complete : (a b : ℕ) → IsEdge count units a b → Precedes graph a b
  complete a b e =
      let i = e.feeds.signal in
      let p = e.feeds.place in
      let target = any_in (slice_has i p) (unit_targets e.before) (unit_targets-drives e.before i p ∙ e.feeds.driven) in
      let source = any_in (slice_has i p) (unit_reads e.behind) e.feeds.read in
      let t = slice_has-has target.0 i p target.2 in
      let s = slice_has-has source.0 i p source.2 in
      let drive = drive_of a target.0 in
      let there : In drive (row table source.0.signal) =
      subst (λ n. In drive (row table n)) s.signal
      (subst (λ (ds : List Drive). In drive ds) (sym (is.rows i e.feeds.known))
      (subst (λ m. In (drive_of m target.0) (drives_at i 0 units)) (sym (zero_plus a)) (from_drives i 0 a units e.before target.0 e.at_a target.1 t.signal))) in
      let fed = from_feeding (own_of b e.behind) source.0 (row table source.0.signal) drive there (own_foreign a b e.behind e.not_own)
      (record { place = p; drive_from = t.from; drive_below = t.below; slice_from = s.from; slice_below = s.below }) in
      let here = from_all table (own_of b e.behind) (unit_reads e.behind) source.0 a source.1 fed in
      in_contains (get_or graph b []) a (subst (λ (xs : List ℕ). In a xs) (sym (graph-row table b units e.behind e.at_b)) here)

  pub unit_graph : IsUnitGraph count units graph
  unit_graph = record { vertices = graph-length table 0 units; sound = sound; complete = complete }

  pub is_graph : IsGraph graph
  is_graph a b h = let e = sound a b h in let below = at_below e.before units a e.at_a in omega (arith, graph-length table 0 units)

  -- the units of the table are vertices
  pub bounded : (i k : ℕ) (drive : Drive) → slice_get (row table i) k ≡ Some drive → drive.unit < length units
  bounded i k drive at =
      let r = (row_drive i drive (at_in drive (row table i) k at)).1 in
      let below = at_below r.driver units r.place r.at in
      omega (arith, r.number)
