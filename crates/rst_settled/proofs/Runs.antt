-- The units of a design in order, run one behind the other, all hold at the end.
use Rattle.std.proofs.Common.{◌≡◌, ◌∙◌, ℕ, zero, suc, ◌+◌, ◌%◌, ◌^◌, ◌<◌, ◌≤◌, true, false, List, [], ◌∷◌, length, Some, None, arith, refl, sym, ap, subst, inl, inr}
use Rattle.std.specs.List.{slice_get, list_any}
use Rattle.std.proofs.lemmas.Bool.{cases_lt, or_parts, false_from_ne_true}
use Rattle.std.proofs.lemmas.Option.{same_Some}
use Rattle.std.proofs.Math.Pow.{pow_mono}
use Rattle.rst_word.specs.Words.{PlainWord}
use Rattle.rst_width.specs.Values.{Valuation, value}
use Rattle.rst_net.specs.Units.{PlainDriver, PlainProcess, Assign, Process, PlainFlat}
use Rattle.rst_net.specs.Statements.{PlainSet}
use Rattle.rst_cycle.specs.Signals.{width_of}
use Rattle.rst_cycle.specs.Effects.{beginning, effect, with_target, target_width}
use Rattle.rst_cycle.specs.Drivers.{target_has, drives}
use Rattle.rst_cycle.specs.Cycle.{Holds}
use Rattle.rst_blocks.specs.Reads.{reads_of, unit_reads}
use Rattle.rst_blocks.specs.Blocks.{wrong_in_unit}
use Rattle.rst_settled.specs.Designs.{UnitSound}
use Rattle.rst_settled.specs.Orderly.{IsOrderly}
use Rattle.rst_settled.proofs.Bits.{bit_past}
use Rattle.rst_settled.proofs.Targets.{bit, target_leaves, target_below, number_alike, number_set}
use Rattle.rst_settled.proofs.SameValues.{same_value}
use Rattle.rst_settled.proofs.Bodies.{statement_leaves}
use Rattle.rst_settled.proofs.SameBlocks.{block_alike, block_below}
use Rattle.rst_settled.proofs.Members.{found, contains_at, no_width, no_bit}

-- what a unit does, and what units do
abbrev pub done : PlainDriver → Valuation → Valuation
done (Assign set) v = with_target set.target (value v set.value).value v
done (Process process) v = (effect process.body (beginning v v)).last

abbrev pub done_all : List PlainDriver → Valuation → Valuation
done_all [] v = v
done_all (unit ∷ units) v = done_all units (done unit v)

pub done_leaves : (unit : PlainDriver) (v : Valuation) (i place : ℕ) → drives unit i place ≡ false → bit (done unit v) i place ≡ bit v i place
done_leaves (Assign set) v i place h = target_leaves set.target (value v set.value).value v i place h
done_leaves (Process process) v i place h = statement_leaves i place process.body (beginning v v) h

pub all_leave : (units : List PlainDriver) (v : Valuation) (i place : ℕ) → list_any (λ unit. drives unit i place) units ≡ false
    → bit (done_all units v) i place ≡ bit v i place
all_leave [] v i place h = refl
all_leave (unit ∷ units) v i place h =
    let none = or_parts (drives unit i place) (list_any (λ other. drives other i place) units) h in
    all_leave units (done unit v) i place none.1 ∙ done_leaves unit v i place none.0

module _ (room : ℕ → ℕ) (narrow : (i : ℕ) → room i ≤ 64) where
  done_below : (unit : PlainDriver) → UnitSound room unit → wrong_in_unit unit ≡ None → (v : Valuation) → ((i : ℕ) → v i < 2 ^ room i) → (i : ℕ)
      → done unit v i < 2 ^ room i
  done_below (Assign set) sound blocking v below = target_below room set.target (value v set.value).value v sound below
  done_below (Process process) sound blocking v below = block_below room narrow process.body sound blocking v below

  pub all_below :
      (units : List PlainDriver) → ((k : ℕ) (unit : PlainDriver) → slice_get units k ≡ Some unit → UnitSound room unit × (wrong_in_unit unit ≡ None))
      → (v : Valuation) → ((i : ℕ) → v i < 2 ^ room i)
      → (i : ℕ) → done_all units v i < 2 ^ room i
  all_below [] fine v below = below
  all_below (unit ∷ units) fine v below =
      let one = fine 0 unit refl in
      all_below units (λ k other at. fine (suc k) other at) (done unit v) (done_below unit one.0 one.1 v below)

module _ (flat : PlainFlat) (orderly : IsOrderly flat) where
  abbrev room : ℕ → ℕ
  room i = width_of flat.signals i

  in_word : (v : Valuation) → ((i : ℕ) → v i < 2 ^ room i) → (i : ℕ) → v i < 2 ^ 64
  in_word v below i = let one = below i in let other = pow_mono (orderly.design.widths i) in omega (arith, one, other)

  -- the units behind the one with the number n
  abbrev Behind : ℕ → List PlainDriver → Type 0
  Behind n units = (k : ℕ) → slice_get units k ≡ slice_get flat.units (suc n + k)

  none_drives : (n : ℕ) (units : List PlainDriver) → Behind n units → (i place : ℕ)
      → ((k : ℕ) (unit : PlainDriver) → n < k → slice_get flat.units k ≡ Some unit → drives unit i place ≡ true → ⊥)
      → list_any (λ unit. drives unit i place) units ≡ false
  none_drives n units behind i place never =
      false_from_ne_true (list_any (λ unit. drives unit i place) units)
      (λ h. let other = found (λ unit. drives unit i place) units h in
      never (suc n + other.place) other.item (omega arith) (sym (behind other.place) ∙ other.at) other.holds)

  -- the bits that a unit drives are left alone behind it
  driven_kept : (n : ℕ) (first : PlainDriver) (units : List PlainDriver) → Behind n units → slice_get flat.units n ≡ Some first → (v : Valuation) (i place : ℕ)
      → drives first i place ≡ true → bit (done_all units v) i place ≡ bit v i place
  driven_kept n first units behind at v i place d =
      all_leave units v i place (none_drives n units behind i place
      (λ k other after here e. let same = orderly.design.single n k first other i place at here d e in omega (arith, same, after)))

  -- and so are those that it reads
  read_kept : (n : ℕ) (first : PlainDriver) (units : List PlainDriver) → Behind n units → slice_get flat.units n ≡ Some first → (v : Valuation)
      → ((i : ℕ) → v i < 2 ^ room i) → ((i : ℕ) → done_all units v i < 2 ^ room i) → (i place : ℕ)
      → target_has (unit_reads first) i place ≡ true → bit (done_all units v) i place ≡ bit v i place
  read_kept n first units behind at v below after i place r =
      elim (cases_lt i (length flat.signals)) [
        | inl there ↦
            all_leave units v i place (none_drives n units behind i place
            (λ k other later here d.
            let order = orderly.order k n (record {
              before = other;
              behind = first;
              at_a = here;
              at_b = at;
              feeds = record { signal = i; place = place; known = there; driven = d; read = r };
              not_own = λ e. absurd (omega (arith, e, later));
            }) in
            omega (arith, order, later)))
        | inr past ↦
            let none = no_width flat.signals i past in
            no_bit (done_all units v i) (room i) place (after i) none ∙ sym (no_bit (v i) (room i) place (below i) none)
      ]

  -- an assign drives nothing that it reads
  assign_reads : (n : ℕ) (set : PlainSet) → slice_get flat.units n ≡ Some (Assign set) → (v : Valuation)
      → ((i : ℕ) → v i < 2 ^ room i) → ((i : ℕ) → done (Assign set) v i < 2 ^ room i) → (i place : ℕ)
      → target_has (reads_of set.value) i place ≡ true → bit (done (Assign set) v) i place ≡ bit v i place
  assign_reads n set at v below middle i place r =
      elim (cases_lt i (length flat.signals)) [
        | inl there ↦
            done_leaves (Assign set) v i place
            (false_from_ne_true (target_has set.target i place)
            (λ d.
            let order = orderly.order n n (record {
              before = Assign set;
              behind = Assign set;
              at_a = at;
              at_b = at;
              feeds = record { signal = i; place = place; known = there; driven = d; read = r };
              not_own = λ _. refl;
            }) in
            omega (arith, order)))
        | inr past ↦
            let none = no_width flat.signals i past in
            no_bit (done (Assign set) v i) (room i) place (middle i) none ∙ sym (no_bit (v i) (room i) place (below i) none)
      ]

  assign_holds : (n : ℕ) (set : PlainSet) (units : List PlainDriver) → Behind n units → slice_get flat.units n ≡ Some (Assign set) → (v : Valuation)
      → ((i : ℕ) → v i < 2 ^ room i) → ((i : ℕ) → done (Assign set) v i < 2 ^ room i) → ((i : ℕ) → done_all units (done (Assign set) v) i < 2 ^ room i)
      → Holds (done_all units (done (Assign set) v)) (Assign set)
  assign_holds n set units behind at v below middle after =
      let next : Valuation = done (Assign set) v in
      let last : Valuation = done_all units next in
      let within = contains_at flat.units n (Assign set) at in
      let spelled = number_alike set.target last next (λ i place d. driven_kept n (Assign set) units behind at next i place d) in
      let same = same_value v last (in_word v below) (in_word last after) set.value
      (record {
        same = λ i place l r. sym (read_kept n (Assign set) units behind at next middle after i place r
            ∙ assign_reads n set at v below middle i place r);
      }) in
      spelled ∙ (number_set set.target (value v set.value).value v (orderly.design.once (Assign set) within)
      ∙ ap (λ (w : PlainWord). w.value % 2 ^ target_width set.target) same)

  block_holds : (n : ℕ) (process : PlainProcess) (units : List PlainDriver) → Behind n units → slice_get flat.units n ≡ Some (Process process) → (v : Valuation)
      → ((i : ℕ) → v i < 2 ^ room i) → ((i : ℕ) → done (Process process) v i < 2 ^ room i) → ((i : ℕ) → done_all units (done (Process process) v) i < 2 ^ room i)
      → Holds (done_all units (done (Process process) v)) (Process process)
  block_holds n process units behind at v below middle after i place d =
      let next : Valuation = done (Process process) v in
      let last : Valuation = done_all units next in
      let within = contains_at flat.units n (Process process) at in
      let sound = orderly.design.sound (Process process) within in
      let blocking = orderly.blocking (Process process) within in
      driven_kept n (Process process) units behind at next i place d
      ∙ elim (cases_lt place 64) [
        | inl l ↦
            block_alike room orderly.design.widths process.body sound blocking (orderly.latch (Process process) within) v last below after
            (λ j p l r unset. sym (read_kept n (Process process) units behind at next middle after j p r ∙ done_leaves (Process process) v j p unset)) i place l d
        | inr past ↦
            let again = block_below room orderly.design.widths process.body sound blocking last after in
            bit_past (next i) 64 place (in_word next middle i) past
            ∙ sym (bit_past ((effect process.body (beginning last last)).last i) 64 place (in_word (effect process.body (beginning last last)).last again i) past)
      ]

  first_holds : (n : ℕ) (first : PlainDriver) (units : List PlainDriver) → Behind n units → slice_get flat.units n ≡ Some first → (v : Valuation)
      → ((i : ℕ) → v i < 2 ^ room i) → ((i : ℕ) → done first v i < 2 ^ room i) → ((i : ℕ) → done_all units (done first v) i < 2 ^ room i)
      → Holds (done_all units (done first v)) first
  first_holds n (Assign set) units behind at v below middle after = assign_holds n set units behind at v below middle after
  first_holds n (Process process) units behind at v below middle after = block_holds n process units behind at v below middle after

  holds_from :
      (n : ℕ) (units : List PlainDriver) → ((k : ℕ) → slice_get units k ≡ slice_get flat.units (n + k)) → (v : Valuation) → ((i : ℕ) → v i < 2 ^ room i)
      → (k : ℕ) (unit : PlainDriver) → slice_get units k ≡ Some unit → Holds (done_all units v) unit
  holds_from n [] at v below k unit h = absurd cc
  holds_from n (first ∷ units) at v below zero unit h =
      let here : n + 0 ≡ n = omega arith in
      let place : slice_get flat.units n ≡ Some first = sym (at 0 ∙ ap (slice_get flat.units) here) in
      let behind : Behind n units = λ k. let next : n + suc k ≡ suc n + k = omega arith in at (suc k) ∙ ap (slice_get flat.units) next in
      let middle : (i : ℕ) → done first v i < 2 ^ room i = done_below room orderly.design.widths first
      (orderly.design.sound first (contains_at flat.units n first place))
      (orderly.blocking first (contains_at flat.units n first place)) v below in
      let after : (i : ℕ) → done_all units (done first v) i < 2 ^ room i =
      all_below room orderly.design.widths units (λ k other e. let there = contains_at flat.units (suc n + k) other (sym (behind k) ∙ e) in
      (orderly.design.sound other there, orderly.blocking other there)) (done first v) middle in
      subst (λ x. Holds (done_all units (done first v)) x) (same_Some first unit h) (first_holds n first units behind place v below middle after)
  holds_from n (first ∷ units) at v below (suc k) unit h =
      let here : n + 0 ≡ n = omega arith in
      let place : slice_get flat.units n ≡ Some first = sym (at 0 ∙ ap (slice_get flat.units) here) in
      holds_from (suc n) units (λ j. let next : n + suc j ≡ suc n + j = omega arith in at (suc j) ∙ ap (slice_get flat.units) next) (done first v)
      (done_below room orderly.design.widths first (orderly.design.sound first (contains_at flat.units n first place))
      (orderly.blocking first (contains_at flat.units n first place)) v below) k unit h

  pub units_hold : (v : Valuation) → ((i : ℕ) → v i < 2 ^ room i) → (k : ℕ) (unit : PlainDriver) → slice_get flat.units k ≡ Some unit
      → Holds (done_all flat.units v) unit
  units_hold v below = holds_from 0 flat.units (λ k. let e : k ≡ 0 + k = omega arith in ap (slice_get flat.units) e) v below
