-- Signals that are driven on a cycle.
use Rattle.std.proofs.Common.{◌≡◌, ℕ, ◌<◌, List, sym, ◌∙◌, ap, subst, arith, Some}
use Rattle.std.specs.List.{slice_get}
use Rattle.rst_order.specs.Graphs.{Graph, Precedes, Reaches, edge, further, HasCycle}
use Rattle.rst_net.specs.Units.{PlainDriver}
use Rattle.rst_cycle.specs.Drivers.{slice_has}
use Rattle.rst_blocks.specs.Sets.{unit_targets}
use Rattle.rst_flow.specs.declared.drives.Drive.{Drive}
use Rattle.rst_flow.specs.Edges.{IsUnitGraph, IsLooped}
use Rattle.rst_flow.specs.Tables.{Table, row, IsTable, drives_at, IsAround}
use Rattle.rst_flow.proofs.Members.{In, in_at, at_in, any_in, in_any}
use Rattle.rst_flow.proofs.Bits.{slice_has-has, has-slice_has}
use Rattle.rst_flow.proofs.Table.{drive_of, drives_from, from_drives}
use Rattle.rst_flow.proofs.UnitGraph.{zero_plus, unit_targets-drives}

-- the first edge of a path
first_edge : {graph : Graph} {a b : ℕ} → Reaches graph a b → (c : ℕ) × Precedes graph a c
first_edge (edge {b = b} p) = (b, p)
first_edge (further {b = b} p r) = (b, p)

module _ (count : ℕ) (units : List PlainDriver) (table : Table) (is : IsTable count units table) (graph : Graph) where
  pub around_looped : (i : ℕ) → i < count → IsAround graph (row table i) → IsLooped units graph i
  around_looped i below a =
      let u = drives_from i 0 units a.drive (subst (λ (ds : List Drive). In a.drive ds) (is.rows i below) (at_in a.drive (row table i) a.place a.at)) in
      let width : u.slice.width ≡ a.drive.width = ap (λ (d : Drive). d.width) u.same in
      record {
        unit = a.drive.unit;
        driver = u.driver;
        place = u.slice.low;
        at = subst (λ n. slice_get units n ≡ Some u.driver) (zero_plus u.place ∙ sym u.number) u.at;
        driven = sym (unit_targets-drives u.driver i u.slice.low)
            ∙ in_any (slice_has i u.slice.low) u.slice (unit_targets u.driver) u.member
            (has-slice_has u.slice i u.slice.low (record { signal = u.signal; from = omega arith; below = omega (arith, a.some_bits) }));
        around = a.around;
      }

  pub looped_around : (i : ℕ) → i < count → IsLooped units graph i → IsAround graph (row table i)
  looped_around i below l =
      let target = any_in (slice_has i l.place) (unit_targets l.driver) (unit_targets-drives l.driver i l.place ∙ l.driven) in
      let t = slice_has-has target.0 i l.place target.2 in
      let drive = drive_of l.unit target.0 in
      let there = in_at drive (row table i) (subst (λ (ds : List Drive). In drive ds) (sym (is.rows i below))
      (subst (λ m. In (drive_of m target.0) (drives_at i 0 units)) (sym (zero_plus l.unit)) (from_drives i 0 l.unit units l.driver target.0 l.at target.1 t.signal))) in
      record { place = there.0; drive = drive; at = there.1; some_bits = omega (arith, t.from, t.below); around = l.around }

  -- a unit on a cycle drives a bit of one of the signals
  pub cycle_looped : IsUnitGraph count units graph → HasCycle graph → (i : ℕ) × (i < count) × IsLooped units graph i
  cycle_looped edges cycle =
      let step = first_edge cycle.1 in
      let e = edges.sound cycle.0 step.0 step.1 in
      (e.feeds.signal, e.feeds.known, record { unit = cycle.0; driver = e.before; place = e.feeds.place; at = e.at_a; driven = e.feeds.driven; around = cycle.1 })
