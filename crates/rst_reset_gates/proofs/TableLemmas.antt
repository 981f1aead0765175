-- How the table of resets is filled, and how the signals of slices get their words back.
use Rattle.std.proofs.Common.{◌≡◌, ◌≢◌, ◌∙◌, ℕ, zero, suc, ◌+◌, ◌-◌, ◌<◌, ◌≤◌, Bool, true, false, not, ◌&&◌, ◌||◌, cond, ltb, List, [], ◌∷◌, ◌++◌, length, map, take, drop, replicate, get_or, set, Option, Some, None, arith, refl, sym, ap, subst, inl, inr}
use Rattle.std.specs.Option.{option_map}
use Rattle.std.specs.List.{AllByRecursion}
use Rattle.std.specs.declared.vec.Vec.{Vec}
use Rattle.std.specs.declared.alloc.Global.{Global}
use Rattle.std.proofs.lemmas.Bool.{cond-true, cond-false}
use Rattle.std.proofs.lemmas.Bool.Decides.{eqb_tells}
use Rattle.std.proofs.Math.ListN.{drop_of_length-le}
use Rattle.std.proofs.lemmas.List.Folds.{list_any-append}
use Rattle.std.proofs.lemmas.List.{ext_get_or, take_more, drop_more, length-map, length-set, length-replicate, map-append, get_or-set_same, get_or-set_other}
use Rattle.rst_gate.specs.declared.edge.Edge.{Edge}
use Rattle.rst_net.specs.declared.signal.Slice.{Slice}
use Rattle.rst_net.specs.declared.signal.Role.{Role}
use Rattle.rst_net.specs.declared.signal.Role.TheVariants as role
use Rattle.rst_net.specs.declared.unit.Reset.{Reset}
use Rattle.rst_width.specs.Typed.{Typed}
use Rattle.rst_net.specs.Statements.{Statement, If}
use Rattle.rst_net.specs.declared.unit.Process as unit
use Rattle.rst_net.specs.Units.{PlainSignal, PlainProcess, plain_process}
use Rattle.rst_cycle.specs.Bits.{has_bit}
use Rattle.rst_cycle.specs.Signals.{width_of, role_of}
use Rattle.rst_cycle.specs.Drivers.{slice_has, target_has, sets}
use Rattle.rst_cycle.specs.Resets.{BitReset, forced, branch_reset, process_reset, or_else}
use Rattle.rst_settled.proofs.Targets.{IsOf, slice_is, slice_from}
use Rattle.rst_blocks.specs.Sets.{targets_in}
use Rattle.rst_blocks.proofs.Targets.{targets_in-sets}
use Rattle.rst_lower.specs.WireWords.{word_of, widths_of}
use Rattle.rst_statement_terms.specs.Targets.{Words}
use Rattle.rst_lower.proofs.Stands.{signal_there}
use Rattle.rst_statement_terms.specs.Weights.{statement_weight}
use Rattle.rst_statement_values.specs.Fits.{SliceInside, StatementFits}
use Rattle.rst_design_terms.specs.Lowerable.{ClockedFit, clocked_weight}
use Rattle.rst_reset_gates.specs.declared.table.BitReset as code
use Rattle.rst_reset_gates.specs.Tables.{plain_reset, Rows, row_of, reset_at, row_width, no_resets, value_at, Gives, Precedes, IsTable, IsForced}

-- ---- rows in memory

abbrev Row : Type 0
Row = Vec (Option code.BitReset) Global

pub rows_length : (vs : List Row) → length (map (λ (v : Row). v.items) vs) ≡ length vs
rows_length vs = length-map vs (λ v. v.items)

pub rows_read : (vs : List Row) (i : ℕ) (d : Row) → i < length vs → get_or (map (λ (v : Row). v.items) vs) i [] ≡ (get_or vs i d).items
rows_read [] i d h = absurd (omega arith)
rows_read (v ∷ vs) zero d h = refl
rows_read (v ∷ vs) (suc i) d h = rows_read vs i d (omega arith)

pub rows_set : (vs : List Row) (i : ℕ) (v : Row) → map (λ (v : Row). v.items) (set vs i v) ≡ set (map (λ (v : Row). v.items) vs) i v.items
rows_set [] i v = refl
rows_set (w ∷ vs) zero v = refl
rows_set (w ∷ vs) (suc i) v = let rest = rows_set vs i v in λ k. w.items ∷ rest k

pub rows_push : (vs : List Row) (v : Row) → map (λ (v : Row). v.items) (vs ++ v ∷ []) ≡ map (λ (v : Row). v.items) vs ++ v.items ∷ []
rows_push vs v = map-append (λ (v : Row). v.items) vs (v ∷ [])

-- an entry that isn't there isn't set
pub set_past : {X : Type 0} (xs : List X) (i : ℕ) (x : X) → length xs ≤ i → set xs i x ≡ xs
set_past [] i x h = refl
set_past (y ∷ ys) zero x h = absurd (omega (arith, h))
set_past (y ∷ ys) (suc i) x h = ap (λ zs. y ∷ zs) (set_past ys i x (omega (arith, h)))

-- ---- one bit

-- the rows keep their lengths
put_long : (rows : Rows) (i place : ℕ) (r : Option code.BitReset) (j : ℕ) → length (row_of (set rows i (set (row_of rows i) place r)) j) ≡ length (row_of rows j)
put_long [] i place r j = refl
put_long (row ∷ rows) zero place r zero = length-set row place r
put_long (row ∷ rows) zero place r (suc j) = refl
put_long (row ∷ rows) (suc i) place r zero = refl
put_long (row ∷ rows) (suc i) place r (suc j) = put_long rows i place r j

put_here : (rows : Rows) (i place : ℕ) (r : Option code.BitReset) → place < length (row_of rows i) → get_or (row_of (set rows i (set (row_of rows i) place r)) i) place None ≡ r
put_here [] i place r h = absurd (omega (arith, h))
put_here (row ∷ rows) zero place r h = get_or-set_same row place r None h
put_here (row ∷ rows) (suc i) place r h = put_here rows i place r h

put_beside : (rows : Rows) (i place : ℕ) (r : Option code.BitReset) (p : ℕ) → p ≢ place
    → get_or (row_of (set rows i (set (row_of rows i) place r)) i) p None ≡ get_or (row_of rows i) p None
put_beside [] i place r p h = refl
put_beside (row ∷ rows) zero place r p h = get_or-set_other row place p r None h
put_beside (row ∷ rows) (suc i) place r p h = put_beside rows i place r p h

put_elsewhere : (rows : Rows) (i place : ℕ) (r : Option code.BitReset) (j : ℕ) → j ≢ i → row_of (set rows i (set (row_of rows i) place r)) j ≡ row_of rows j
put_elsewhere rows i place r j h = get_or-set_other rows i j (set (row_of rows i) place r) [] h

or_false : (b : Bool) → (b || false) ≡ b
or_false true = refl
or_false false = refl

same_truth : (a b : Bool) → (a ≡ true → b ≡ true) → (b ≡ true → a ≡ true) → a ≡ b
same_truth true b f g = sym (f refl)
same_truth false true f g = g refl
same_truth false false f g = refl

-- the lowest places of a slice
abbrev pub part : Slice → ℕ → Slice
part slice k = record { signal = slice.signal; low = slice.low; width = k }

module _ (reset : Reset) (value : ℕ → ℕ → Bool) where
  -- what a bit gets
  abbrev given : ℕ → ℕ → Option BitReset
  given i place = Some (record { signal = reset.signal; level = reset.level; value = value i place })

  pub gives_nothing : (which : ℕ → ℕ → Bool) (rows : Rows) → ((i place : ℕ) → which i place ≡ false) → Gives reset which value rows rows
  gives_nothing which rows none = record {
    widths = λ i. refl;
    bits = λ i place below. sym (cond-false (which i place) (given i place) (reset_at rows i place) (none i place));
  }

  twice : (a b : Bool) (x y : Option BitReset) → cond b x (cond a x y) ≡ cond (a || b) x y
  twice true true x y = refl
  twice true false x y = refl
  twice false b x y = refl

  pub gives_then : (first second both : ℕ → ℕ → Bool) (start rows later : Rows) → Gives reset first value start rows → Gives reset second value rows later
      → ((i place : ℕ) → both i place ≡ (first i place || second i place)) → Gives reset both value start later
  gives_then first second both start rows later h k is = record {
    widths = λ i. k.widths i ∙ h.widths i;
    bits = λ i place below.
        let w = k.widths i in
        k.bits i place below
        ∙ (ap (cond (second i place) (given i place)) (h.bits i place (omega (arith, below, w)))
        ∙ (twice (first i place) (second i place) (given i place) (reset_at start i place)
        ∙ ap (λ b. cond b (given i place) (reset_at start i place)) (sym (is i place))));
  }

  pub place_turn : (slice : Slice) (k : ℕ) (start rows : Rows) (b : code.BitReset) → Gives reset (λ i place. slice_has i place (part slice k)) value start rows
      → plain_reset b ≡ record { signal = reset.signal; level = reset.level; value = value slice.signal (slice.low + k) }
      → Gives reset (λ i place. slice_has i place (part slice (k + 1))) value start (set rows slice.signal (set (row_of rows slice.signal) (slice.low + k) (Some b)))
  place_turn slice k start rows b h is =
      let s : ℕ = slice.signal in
      let q : ℕ = slice.low + k in
      let new : Rows = set rows s (set (row_of rows s) q (Some b)) in
      let has : ℕ → ℕ → Bool = λ i place. slice_has i place (part slice (k + 1)) in
      let had : ℕ → ℕ → Bool = λ i place. slice_has i place (part slice k) in
      let wide = λ (i : ℕ). put_long rows s q (Some b) i in
      let other = λ (i place : ℕ) (below : place < length (row_of new i)) (not_here : (i ≡ s) × (place ≡ q) → ⊥) (kept : reset_at new i place ≡ reset_at rows i place).
      let same : has i place ≡ had i place =
      same_truth (has i place) (had i place)
      (λ t.
      let of : IsOf (part slice (k + 1)) i place = slice_is (part slice (k + 1)) i place t in
      let here = of.same in let above = of.from in let under = of.below in
      let less : place < slice.low + k = elim (eqb_tells place q) [ inl u ↦ absurd (not_here (here, u.1)) | inr u ↦ let ne = u.1 in omega (arith, under, ne) ] in
      slice_from (part slice k) i place here above less)
      (λ t.
      let of : IsOf (part slice k) i place = slice_is (part slice k) i place t in
      let under = of.below in
      slice_from (part slice (k + 1)) i place of.same of.from (omega (arith, under))) in
      let w = wide i in
      kept ∙ (h.bits i place (omega (arith, below, w)) ∙ ap (λ c. cond c (given i place) (reset_at start i place)) (sym same)) in
      record {
        widths = λ i. wide i ∙ h.widths i;
        bits = λ i place below.
            elim (eqb_tells i s) [
              | inl t ↦ elim (eqb_tells place q) [
                | inl u ↦
                    let e = t.1 in let f = u.1 in
                    let inside : q < length (row_of rows s) = let w = wide i ∙ ap (λ z. length (row_of rows z)) e in omega (arith, below, w, f) in
                    (λ j. reset_at new (e j) (f j))
                    ∙ (ap (option_map plain_reset) (put_here rows s q (Some b) inside)
                    ∙ (ap Some is
                    ∙ ((λ j. given (sym e j) (sym f j))
                    ∙ sym (cond-true (has i place) (given i place) (reset_at start i place) (slice_from (part slice (k + 1)) i place e (omega (arith, f)) (omega (arith, f)))))))
                | inr u ↦
                    let e = t.1 in
                    other i place below (λ p. u.1 p.1) ((λ j. reset_at new (e j) place) ∙ (ap (option_map plain_reset) (put_beside rows s q (Some b) place u.1) ∙ (λ j. reset_at rows (sym e j) place)))
              ]
              | inr t ↦ other i place below (λ p. t.1 p.0) (ap (λ (row : List (Option code.BitReset)). option_map plain_reset (get_or row place None)) (put_elsewhere rows s q (Some b) i t.1))
            ];
      }

-- ---- a branch, and a block

pub no_place : (slice : Slice) (i place : ℕ) → slice_has i place (part slice 0) ≡ false
no_place slice i place =
    same_truth (slice_has i place (part slice 0)) false
    (λ t.
    let of : IsOf (part slice 0) i place = slice_is (part slice 0) i place t in
    let above = of.from in let under = of.below in absurd (omega (arith, above, under))) (λ t. cc)

pub one_slice_more : (slices : List Slice) (k : ℕ) (slice : Slice) → k < length slices → slice ≡ get_or slices k slice → (i place : ℕ)
    → target_has (take (k + 1) slices) i place ≡ (target_has (take k slices) i place || slice_has i place slice)
one_slice_more slices k slice h is i place =
    ap (λ (xs : List Slice). target_has xs i place) (take_more slices k slice h ∙ ap (λ (x : Slice). take k slices ++ x ∷ []) (sym is))
    ∙ (list_any-append (slice_has i place) (take k slices) (slice ∷ []) ∙ ap (λ b. target_has (take k slices) i place || b) (or_false (slice_has i place slice)))

pub branch_gives : (reset : Reset) (st : Statement) (blank wires : Words Edge) (old new : Rows) → ((i : ℕ) → length (row_of old i) ≤ widths_of blank i) → IsForced st blank wires
    → Gives reset (target_has (targets_in st)) (value_at wires) old new → Gives reset (sets st) (λ i place. has_bit (forced st i) place) old new
branch_gives reset st blank wires old new rows of h = record {
  widths = h.widths;
  bits = λ i place below.
      let w = h.widths i in
      let r = rows i in
      let value = of.bits i place (omega (arith, below, w, r)) in
      let test = targets_in-sets st i place in
      h.bits i place below ∙ (λ j. cond (test j) (Some (record { signal = reset.signal; level = reset.level; value = value j })) (reset_at old i place));
}

abbrev of_process : Option Reset → Statement → ℕ → ℕ → Option BitReset
of_process reset body i place = elim reset [ None ↦ None | Some r ↦ branch_reset r body i place ]

before : (b : Bool) (r : BitReset) (x : Option BitReset) → cond b (Some r) x ≡ or_else (cond b (Some r) None) x
before true r x = refl
before false r x = refl

pub branch_precedes : (process : PlainProcess) (reset : Reset) (condition : Typed) (first second : Statement) (old new : Rows)
    → process.reset ≡ Some reset → process.body ≡ If condition first second
    → Gives reset (sets first) (λ i place. has_bit (forced first i) place) old new → Precedes process old new
branch_precedes process reset condition first second old new is body h = record {
  widths = h.widths;
  bits = λ i place below.
      h.bits i place below
      ∙ (before (sets first i place) (record { signal = reset.signal; level = reset.level; value = has_bit (forced first i) place }) (reset_at old i place)
      ∙ (λ j. or_else (of_process (sym is j) (sym body j) i place) (reset_at old i place)));
}

pub none_precedes : (process : PlainProcess) (rows : Rows) → ((i place : ℕ) → process_reset process i place ≡ None) → Precedes process rows rows
none_precedes process rows none = record { widths = λ i. refl; bits = λ i place below. ap (λ r. or_else r (reset_at rows i place)) (sym (none i place)) }

-- ---- the table of all blocks

abbrev none : Option code.BitReset
none = None

no_row : (signals : List PlainSignal) (i : ℕ) → row_of (no_resets signals) i ≡ replicate (row_width (role_of signals i) (width_of signals i)) none
no_row [] i = refl
no_row (s ∷ signals) zero = refl
no_row (s ∷ signals) (suc i) = no_row signals i

nothing_at : (n place : ℕ) → get_or (replicate n none) place none ≡ none
nothing_at zero place = refl
nothing_at (suc n) zero = refl
nothing_at (suc n) (suc place) = nothing_at n place

pub no_table : (signals : List PlainSignal) → IsTable signals [] (no_resets signals)
no_table signals = record {
  widths = λ i. ap length (no_row signals i) ∙ length-replicate (row_width (role_of signals i) (width_of signals i)) none;
  bits = λ i place below.
      ap (λ (row : List (Option code.BitReset)). option_map plain_reset (get_or row place None)) (no_row signals i)
      ∙ ap (option_map plain_reset) (nothing_at (row_width (role_of signals i) (width_of signals i)) place);
}

pub table_turn : (signals : List PlainSignal) (process : PlainProcess) (rest : List PlainProcess) (rows later : Rows)
    → IsTable signals rest rows → Precedes process rows later → IsTable signals (process ∷ rest) later
table_turn signals process rest rows later h k = record {
  widths = λ i. k.widths i ∙ h.widths i;
  bits = λ i place below.
      let w = k.widths i in
      k.bits i place below ∙ ap (or_else (process_reset process i place)) (h.bits i place (omega (arith, below, w)));
}

-- rows are no longer than their signals
row_narrow : (r : Role) (w : ℕ) → row_width r w ≤ w
row_narrow role.Register w = omega arith
row_narrow role.Clock w = omega arith
row_narrow role.Input w = omega arith
row_narrow role.Block w = omega arith
row_narrow role.Wire w = omega arith
row_narrow role.Idle w = omega arith

pub table_narrow : (signals : List PlainSignal) (clocked : List PlainProcess) (rows : Rows) → IsTable signals clocked rows → (i : ℕ) → length (row_of rows i) ≤ width_of signals i
table_narrow signals clocked rows h i = let w = h.widths i in let n = row_narrow (role_of signals i) (width_of signals i) in omega (arith, w, n)

-- ---- the words that come back

clear_turn : (slice : Slice) (rest : List Slice) (blank wires : Words Edge) → slice.signal < length wires
    → ((i : ℕ) → ((place : ℕ) → target_has (slice ∷ rest) i place ≡ false) → word_of wires i ≡ word_of blank i)
    → (i : ℕ) → ((place : ℕ) → target_has rest i place ≡ false) → word_of (set wires slice.signal (word_of blank slice.signal)) i ≡ word_of blank i
clear_turn slice rest blank wires there h i none =
    elim (eqb_tells i slice.signal) [
      | inl t ↦
          let e = t.1 in
          ap (λ n. word_of (set wires slice.signal (word_of blank slice.signal)) n) e
          ∙ (get_or-set_same wires slice.signal (word_of blank slice.signal) [] there ∙ ap (word_of blank) (sym e))
      | inr t ↦
          let f = t.0 in
          get_or-set_other wires slice.signal i (word_of blank slice.signal) [] t.1
          ∙ h i (λ place. (λ j. (f j && (not (ltb place slice.low) && ltb place (slice.low + slice.width))) || target_has rest i place) ∙ none place)
    ]

slice_at : (P : Slice → Type 0) (slices : List Slice) (k : ℕ) (d : Slice) → k < length slices → AllByRecursion P slices → P (get_or slices k d)
slice_at P [] k d h all = absurd (omega (arith, h))
slice_at P (slice ∷ slices) zero d h all = all.0
slice_at P (slice ∷ slices) (suc k) d h all = slice_at P slices k d (omega (arith, h)) all.1

-- The signal of one slice more has its word again.
pub record Cleared (blank wires : Words Edge) (left : List Slice) : Type 0 where
  pub count : length wires ≡ length blank
  pub kept : (i : ℕ) → ((place : ℕ) → target_has left i place ≡ false) → word_of wires i ≡ word_of blank i

pub cleared_turn : (slices : List Slice) (k : ℕ) (d : Slice) (blank wires later : Words Edge) → k < length slices → AllByRecursion (SliceInside (widths_of blank)) slices
    → Cleared blank wires (drop k slices) → later ≡ set wires (get_or slices k d).signal (word_of blank (get_or slices k d).signal) → Cleared blank later (drop (k + 1) slices)
cleared_turn slices k d blank wires later h inside now is =
    let s : Slice = get_or slices k d in
    let rest : List Slice = drop (k + 1) slices in
    let here : SliceInside (widths_of blank) s = slice_at (SliceInside (widths_of blank)) slices k d h inside in
    let some = here.some_bits in
    let fits = here.inside in
    let there = signal_there blank s.signal (omega (arith, some, fits)) in
    let count = now.count in
    let left = subst (λ (ss : List Slice). (i : ℕ) → ((place : ℕ) → target_has ss i place ≡ false) → word_of wires i ≡ word_of blank i) (drop_more slices k d h) now.kept in
    record {
      count = ap length is ∙ (length-set wires s.signal (word_of blank s.signal) ∙ count);
      kept = λ i none. ap (λ ws. word_of ws i) is ∙ clear_turn s rest blank wires (omega (arith, there, count)) left i none;
    }

pub cleared_end : (slices : List Slice) (k : ℕ) (blank wires : Words Edge) → length slices ≤ k → Cleared blank wires (drop k slices) → wires ≡ blank
cleared_end slices k blank wires h now =
    let none : drop k slices ≡ [] = drop_of_length-le slices h in
    ext_get_or [] wires blank now.count (λ i below. now.kept i (λ place. ap (λ (ss : List Slice). target_has ss i place) none))

-- ---- one block more

pub processes_turn : (signals : List PlainSignal) (ps : List unit.Process) (k : ℕ) (p : unit.Process) (rows later : Rows) → k < length ps → p ≡ get_or ps (length ps - 1 - k) p
    → IsTable signals (map plain_process (drop (length ps - k) ps)) rows → Precedes (plain_process p) rows later
    → IsTable signals (map plain_process (drop (length ps - (k + 1)) ps)) later
processes_turn signals ps k p rows later h is table precedes =
    let j : ℕ = length ps - (k + 1) in
    let at : j ≡ length ps - 1 - k = omega arith in
    let next : j + 1 ≡ length ps - k = omega (arith, h) in
    let first : drop j ps ≡ p ∷ drop (length ps - k) ps =
    drop_more ps j p (omega (arith, h)) ∙ (λ z. (ap (λ n. get_or ps n p) at ∙ sym is) z ∷ drop (next z) ps) in
    subst (λ (qs : List unit.Process). IsTable signals (map plain_process qs) later) (sym first)
    (table_turn signals (plain_process p) (map plain_process (drop (length ps - k) ps)) rows later table precedes)

pub no_processes : (ps : List unit.Process) → drop (length ps - 0) ps ≡ []
no_processes ps = drop_of_length-le ps (omega arith)

pub process_fits : (room : ℕ → ℕ) (ps : List unit.Process) (k : ℕ) (p : unit.Process) → k < length ps → p ≡ get_or ps k p → ClockedFit room (map plain_process ps)
    → StatementFits room false (plain_process p).body
process_fits room [] k p h is fit = absurd (omega (arith, h))
process_fits room (q ∷ ps) zero p h is fit = subst (λ (x : unit.Process). StatementFits room false (plain_process x).body) (sym is) fit.0
process_fits room (q ∷ ps) (suc k) p h is fit = process_fits room ps k p (omega (arith, h)) is fit.1

pub process_light : (room : ℕ → ℕ) (count : ℕ) (ps : List unit.Process) (k : ℕ) (p : unit.Process) → k < length ps → p ≡ get_or ps k p
    → statement_weight room count (plain_process p).body ≤ clocked_weight room count (map plain_process ps)
process_light room count [] k p h is = absurd (omega (arith, h))
process_light room count (q ∷ ps) zero p h is =
    subst (λ (x : unit.Process). statement_weight room count (plain_process x).body ≤ clocked_weight room count (map plain_process (q ∷ ps))) (sym is) (omega arith)
process_light room count (q ∷ ps) (suc k) p h is = let rest = process_light room count ps k p (omega (arith, h)) is in omega (arith, rest)
