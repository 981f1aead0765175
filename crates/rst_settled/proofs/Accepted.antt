-- A design that passes has its settled valuations in common with the design whose units are put in their order.
use Rattle.std.proofs.Common.{◌≡◌, ◌∙◌, ℕ, zero, suc, ◌<◌, Bool, true, List, [], ◌∷◌, length, get_or, Option, Some, None, refl, sym, ap, subst, inl, inr}
use Rattle.std.specs.List.{Contains, slice_get}
use Rattle.std.proofs.lemmas.Bool.{cases_order, false_from_ne_true, both_ways}
use Rattle.std.proofs.lemmas.Option.{slice_get_within, get_or_from_slice_get, same_Some}
use Rattle.rst_width.specs.Values.{Valuation}
use Rattle.rst_net.specs.Units.{PlainDriver, PlainFlat}
use Rattle.rst_cycle.specs.Drivers.{drives}
use Rattle.rst_cycle.specs.Cycle.{Settled, is_driven}
use Rattle.rst_blocks.specs.Blocks.{wrong_in_unit, wrong_in_units, wrong_in_clocked, HeldInUnit, HeldIs}
use Rattle.rst_flow.specs.Edges.{pick, picks, IsUnitOrder}
use Rattle.rst_flow.specs.Flows.{Passes}
use Rattle.rst_flow.proofs.Picked.{is_choice, order_once, picks_at, in_order}
use Rattle.rst_settled.specs.Designs.{IsDesign}
use Rattle.rst_settled.specs.Orderly.{IsOrderly}
use Rattle.rst_settled.proofs.SameEffects.{none_of}
use Rattle.rst_settled.proofs.Members.{found, contains_at, at_of, any_at, element}

-- ---- lists

all_blocking : (units : List PlainDriver) → wrong_in_units units ≡ None → (k : ℕ) (unit : PlainDriver) → slice_get units k ≡ Some unit → wrong_in_unit unit ≡ None
all_blocking [] h k unit at = absurd cc
all_blocking (first ∷ units) h zero unit at = subst (λ x. wrong_in_unit x ≡ None) (same_Some first unit at)
    (none_of (wrong_in_unit first) (wrong_in_units units) h).0
all_blocking (first ∷ units) h (suc k) unit at = all_blocking units (none_of (wrong_in_unit first) (wrong_in_units units) h).1 k unit at

none_held : (units : List PlainDriver) → HeldIs units None → (k : ℕ) (unit : PlainDriver) → slice_get units k ≡ Some unit → HeldInUnit unit None
none_held [] h k unit at = absurd cc
none_held (first ∷ units) h zero unit at = subst (λ x. HeldInUnit x None) (same_Some first unit at) h.0
none_held (first ∷ units) h (suc k) unit at = none_held units h.1 k unit at

picked : {X : Type 0} (o : Option X) (y : X) (rest : List X) (k : ℕ) (x : X) → o ≡ Some y → slice_get (y ∷ rest) k ≡ Some x → slice_get (pick o rest) k ≡ Some x
picked None y rest k x e h = absurd cc
picked (Some z) y rest k x e h = ap (λ w. slice_get (w ∷ rest) k) (same_Some z y e) ∙ h

picks_to : {X : Type 0} (xs : List X) (order : List ℕ) → ((k v : ℕ) → slice_get order k ≡ Some v → (x : X) × (slice_get xs v ≡ Some x)) → (k v : ℕ) (x : X)
    → slice_get order k ≡ Some v → slice_get xs v ≡ Some x → slice_get (picks xs order) k ≡ Some x
picks_to xs [] all k v x at here = absurd cc
picks_to xs (u ∷ order) all zero v x at here = picked (slice_get xs u) x (picks xs order) 0 x (ap (slice_get xs) (same_Some u v at) ∙ here) refl
picks_to xs (u ∷ order) all (suc k) v x at here =
    let y = all 0 u refl in
    picked (slice_get xs u) y.0 (picks xs order) (suc k) x y.1 (picks_to xs order (λ j w e. all (suc j) w e) k v x at here)

-- ---- the design with its units in order

abbrev pub net_of : PlainFlat → List ℕ → PlainFlat
net_of flat order = record { signals = flat.signals; units = picks flat.units order; clocked = flat.clocked; outputs = flat.outputs }

module _ (flat : PlainFlat) (order : List ℕ) (ordered : IsUnitOrder (length flat.signals) flat.units order) where
  small : (k v : ℕ) → slice_get order k ≡ Some v → v < length flat.units
  small k v at =
      let below = (is_choice ordered.graph order ordered.steps).below k (slice_get_within order k v at) in
      subst (λ n. n < length flat.units) (get_or_from_slice_get order k v 0 at) (subst (λ m. get_or order k 0 < m) ordered.edges.vertices below)

  from_net : (unit : PlainDriver) → Contains (picks flat.units order) unit → Contains flat.units unit
  from_net unit within =
      let here = picks_at flat.units order within.0 unit small (at_of (picks flat.units order) unit within) in
      contains_at flat.units here.0 unit here.2

  to_net : (v : ℕ) (unit : PlainDriver) → slice_get flat.units v ≡ Some unit → (k : ℕ) × (slice_get (picks flat.units order) k ≡ Some unit)
  to_net v unit at =
      let below : v < length ordered.graph = subst (λ m. v < m) (sym ordered.edges.vertices) (slice_get_within flat.units v unit at) in
      let place = ordered.steps.whole v below in
      (place.0, picks_to flat.units order (λ k u e. element flat.units u (small k u e)) place.0 v unit (at_of order v place) at)

  one_place : (a b v : ℕ) → slice_get order a ≡ Some v → slice_get order b ≡ Some v → a ≡ b
  one_place a b v at_a at_b =
      elim (cases_order a b) [
        | inl e ↦ e
        | inr (inl l) ↦ absurd (order_once ordered.graph order ordered.steps a b v at_a at_b l)
        | inr (inr l) ↦ absurd (order_once ordered.graph order ordered.steps b a v at_b at_a l)
      ]

  design_net : IsDesign flat → IsDesign (net_of flat order)
  design_net design = record {
    widths = design.widths;
    sound = λ unit within. design.sound unit (from_net unit within);
    once = λ unit within. design.once unit (from_net unit within);
    single = λ a b first second i place at_a at_b d e.
        let p = picks_at flat.units order a first small at_a in
        let q = picks_at flat.units order b second small at_b in
        let same : p.0 ≡ q.0 = design.single p.0 q.0 first second i place p.2 q.2 d e in
        one_place a b p.0 p.1 (subst (λ n. slice_get order b ≡ Some n) (sym same) q.1);
    wired = λ unit i place within d. design.wired unit i place (from_net unit within) d;
    resets = design.resets;
  }

  driven_from : (i place : ℕ) → is_driven (net_of flat order) i place ≡ true → is_driven flat i place ≡ true
  driven_from i place h =
      let one = found (λ unit. drives unit i place) (picks flat.units order) h in
      let here = picks_at flat.units order one.place one.item small one.at in
      any_at (λ unit. drives unit i place) flat.units here.0 one.item here.2 one.holds

  driven_to : (i place : ℕ) → is_driven flat i place ≡ true → is_driven (net_of flat order) i place ≡ true
  driven_to i place h =
      let one = found (λ unit. drives unit i place) flat.units h in
      let here = to_net one.place one.item one.at in
      any_at (λ unit. drives unit i place) (picks flat.units order) here.0 one.item here.1 one.holds

  pub settled_to : (state input : List Bool) (v : Valuation) → Settled flat state input v → Settled (net_of flat order) state input v
  settled_to state input v s = record {
    in_range = s.in_range;
    inputs = s.inputs;
    registers = s.registers;
    clocks = s.clocks;
    undriven = λ i place wired d. s.undriven i place wired (false_from_ne_true (is_driven flat i place)
        (λ h. both_ways (is_driven (net_of flat order) i place) d (driven_to i place h)));
    units = λ unit within. s.units unit (from_net unit within);
  }

  pub settled_from : (state input : List Bool) (v : Valuation) → Settled (net_of flat order) state input v → Settled flat state input v
  settled_from state input v s = record {
    in_range = s.in_range;
    inputs = s.inputs;
    registers = s.registers;
    clocks = s.clocks;
    undriven = λ i place wired d. s.undriven i place wired (false_from_ne_true (is_driven (net_of flat order) i place)
        (λ h. both_ways (is_driven flat i place) d (driven_from i place h)));
    units = λ unit within.
        let here = to_net within.0 unit (at_of flat.units unit within) in
        s.units unit (contains_at (picks flat.units order) here.0 unit here.1);
  }

pub orderly_net : (flat : PlainFlat) (order : List ℕ) → IsDesign flat → Passes flat order → IsOrderly (net_of flat order)
orderly_net flat order design passes =
    let kinds = none_of (wrong_in_units flat.units) (wrong_in_clocked flat.clocked) passes.blocks.blocking in
    record {
      design = design_net flat order passes.ordered design;
      blocking = λ unit within. let there = from_net flat order passes.ordered unit within in all_blocking flat.units kinds.0 there.0 unit
          (at_of flat.units unit there);
      order = in_order (length flat.signals) flat.units order passes.ordered;
      latch = λ unit within. let there = from_net flat order passes.ordered unit within in none_held flat.units passes.blocks.latch there.0 unit
          (at_of flat.units unit there);
    }
