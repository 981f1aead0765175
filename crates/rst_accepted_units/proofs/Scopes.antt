-- Among the names of an instance, signals have the widths that the flat design gives them, and parameters are words.
use Rattle.std.proofs.Common.{◌≡◌, ◌∙◌, ℕ, zero, suc, ◌+◌, ◌≤◌, nat_lt, int_le, unsigned_abs, ◌-ℤ◌, pos, negsuc, ℤ, Bool, true, false, not, ◌||◌, ◌&&◌, cond, List, [], ◌∷◌, ◌++◌, Option, Some, None, Result, Ok, Err, length, map, slice_get, append_assoc, length-append, arith, refl, sym, ap, subst}
use Rattle.std.specs.List.{AllByRecursion, flat_map, enumerate_from}
use Rattle.std.proofs.lemmas.Bool.{and_parts}
use Rattle.std.proofs.lemmas.Bool.Decides.{nat_tests}
use Rattle.std.proofs.lemmas.Int.{ints}
use Rattle.std.proofs.lemmas.List.{length-map}
use Rattle.std.proofs.lemmas.List.FromFn.{length-enumerate_from}
use Rattle.rst_word.specs.Words.{PlainWord}
use Rattle.rst_tree.specs.Trees.{Text}
use Rattle.rst_tree.specs.Modules.{PlainRange}
use Rattle.rst_width.specs.Scopes.{Names, Meaning, Signal, Param, Later, IsExtent, IsMeaning, AreMeanings}
use Rattle.rst_width.specs.Reads.{HaveWidths}
use Rattle.rst_net.specs.Units.{PlainSignal, PlainDriver, PlainProcess}
use Rattle.rst_cycle.specs.Signals.{width_in, width_of}
use Rattle.rst_names.specs.declared.faults.ElabCode.{ElabCode}
use Rattle.rst_names.specs.Declarations.{Declared, signals}
use Rattle.rst_instances.specs.Parameters.{Known, Ends, ends_answer, is_bad_range, Valued, known_values, names_behind}
use Rattle.rst_instances.specs.Parameters as params
use Rattle.rst_instances.specs.Places.{Place, Located, ranged_as, ranged_extent, extent_by, extent_in, located_from, known_signal, known_signals, names_at}
use Rattle.rst_elab.specs.Flats.{signal_at, signals_at}
use Rattle.rst_accepted_units.proofs.Lists.{each_always, each_joined, each_map, each_flat}
use Rattle.rst_accepted_units.proofs.Words.{AreValues, each_meaning, known_meanings}

-- ---- extents

-- the ends of a range that is in reach
not_so : (b : Bool) → not b ≡ false → b ≡ true
not_so true h = refl
not_so false h = absurd cc

in_reach : (high low : ℤ) → not (int_le (pos 0) low && (int_le low high && int_le high (pos 65535))) ≡ false → unsigned_abs low + suc (unsigned_abs (high -ℤ low)) ≤ 65536
in_reach high low h =
    let one = and_parts (int_le (pos 0) low) (int_le low high && int_le high (pos 65535)) (not_so (int_le (pos 0) low && (int_le low high && int_le high (pos 65535))) h) in
    let two = and_parts (int_le low high) (int_le high (pos 65535)) one.1 in
    within high low one.0 two.0 two.1
  where
    within : (high low : ℤ) → int_le (pos 0) low ≡ true → int_le low high ≡ true → int_le high (pos 65535) ≡ true → unsigned_abs low + suc (unsigned_abs (high -ℤ low)) ≤ 65536
    within (pos a) (pos b) h k l = grind (arith, ints, nat_tests)
    within (negsuc a) (pos b) h k l = absurd cc
    within high (negsuc b) h k l = absurd cc

ranged_right : (signed : Bool) (a : Result Ends ElabCode) → IsExtent (ranged_extent signed a)
ranged_right signed (Ok ends) = by (is_bad_range ends) (nat_lt 64 (params.width_of ends)) refl refl
  where
    by : (bad wide : Bool) → is_bad_range ends ≡ bad → nat_lt 64 (params.width_of ends) ≡ wide
        → IsExtent (cond (bad || wide) (ranged_as signed 1 0) (ranged_as signed (params.width_of ends) (unsigned_abs ends.low)))
    by true wide b w = record { some_bits = omega arith; at_most_64 = omega arith; in_reach = omega arith }
    by false true b w = record { some_bits = omega arith; at_most_64 = omega arith; in_reach = omega arith }
    by false false b w = record { some_bits = omega arith; at_most_64 = grind (arith, nat_tests); in_reach = in_reach ends.high ends.low b }
ranged_right signed (Err e) = record { some_bits = omega arith; at_most_64 = omega arith; in_reach = omega arith }

extent_right : (names : Names) (signed : Bool) (r : Option PlainRange) → IsExtent (extent_by names signed r)
extent_right names signed None = record { some_bits = omega arith; at_most_64 = omega arith; in_reach = omega arith }
extent_right names signed (Some r) = ranged_right signed (ends_answer names r)

pub place_extent : (p : Place) (d : Declared) → IsExtent (extent_in p d)
place_extent p d = extent_right (names_behind p.of p.values) d.signed d.range

-- ---- what the names of an instance stand for

pub names_right : (l : Located) → AreValues l.place.values → AreMeanings (names_at l)
names_right l values =
    each_meaning IsMeaning (known_values l.place.values ++ known_signals l)
    (each_joined (λ (k : Known). IsMeaning k.meaning) (known_values l.place.values) (known_signals l) (known_meanings l.place.values values)
    (each_map (λ (k : Known). IsMeaning k.meaning) (known_signal l.place) (enumerate_from l.base (signals l.place.of))
    (each_always (λ (n : ℕ × Declared). IsMeaning (known_signal l.place n).meaning) (λ n. place_extent l.place n.1) (enumerate_from l.base (signals l.place.of)))))

-- no name waits for its width
abbrev IsSettled : Meaning → Type 0
IsSettled (Signal i extent) = Unit {0}
IsSettled (Param w) = Unit {0}
IsSettled (Later ranged) = ⊥

values_settled : (vs : List Valued) → AllByRecursion (λ (k : Known). IsSettled k.meaning) (known_values vs)
values_settled [] = tt
values_settled (v ∷ vs) = by v.value (values_settled vs)
  where
    by : (r : Result PlainWord ElabCode) → AllByRecursion (λ (k : Known). IsSettled k.meaning) (known_values vs) → AllByRecursion (λ (k : Known). IsSettled k.meaning) (known_values (record { name = v.name; value = r } ∷ vs))
    by (Ok w) rest = (tt, rest)
    by (Err e) rest = rest

pub never_later : (l : Located) (name : Text) (ranged : Bool) → names_at l name ≡ Some (Later ranged) → ⊥
never_later l name ranged is =
    each_meaning IsSettled (known_values l.place.values ++ known_signals l)
    (each_joined (λ (k : Known). IsSettled k.meaning) (known_values l.place.values) (known_signals l) (values_settled l.place.values)
    (each_map (λ (k : Known). IsSettled k.meaning) (known_signal l.place) (enumerate_from l.base (signals l.place.of))
    (each_always (λ (n : ℕ × Declared). IsSettled (known_signal l.place n).meaning) (λ n. tt) (enumerate_from l.base (signals l.place.of))))) name (Later ranged) is

-- ---- the widths of signals by their numbers

abbrev HasWidth : (ℕ → ℕ) → Meaning → Type 0
HasWidth room (Signal i extent) = room i ≡ extent.width
HasWidth room (Param w) = Unit {0}
HasWidth room (Later ranged) = Unit {0}

values_have : (room : ℕ → ℕ) (vs : List Valued) → AllByRecursion (λ (k : Known). HasWidth room k.meaning) (known_values vs)
values_have room [] = tt
values_have room (v ∷ vs) = by v.value (values_have room vs)
  where
    by : (r : Result PlainWord ElabCode) → AllByRecursion (λ (k : Known). HasWidth room k.meaning) (known_values vs) → AllByRecursion (λ (k : Known). HasWidth room k.meaning) (known_values (record { name = v.name; value = r } ∷ vs))
    by (Ok w) rest = (tt, rest)
    by (Err e) rest = rest

at_length : (before after : List PlainSignal) (s : PlainSignal) → slice_get (before ++ s ∷ after) (length before) ≡ Some s
at_length [] after s = refl
at_length (x ∷ before) after s = at_length before after s

module _ (us : List PlainDriver) (cs : List PlainProcess) where
  -- the signals of an instance, behind others
  signals_have : (l : Located) (before after : List PlainSignal) (n : ℕ) (ds : List Declared) → length before ≡ n
      → AllByRecursion (λ (k : Known). HasWidth (width_of (before ++ (map (signal_at us cs l) (enumerate_from n ds) ++ after))) k.meaning) (map (known_signal l.place) (enumerate_from n ds))
  signals_have l before after n [] e = tt
  signals_have l before after n (d ∷ ds) e =
      let s = signal_at us cs l (n, d) in
      let rest = map (signal_at us cs l) (enumerate_from (n + 1) ds) ++ after in
      let longer : length (before ++ s ∷ []) ≡ n + 1 = length-append before (s ∷ []) ∙ ap (λ k. k + 1) e in (
        ap (λ i. width_in (slice_get (before ++ s ∷ rest) i)) (sym e) ∙ ap width_in (at_length before rest s),
        subst (λ (all : List PlainSignal). AllByRecursion (λ (k : Known). HasWidth (width_of all) k.meaning) (map (known_signal l.place) (enumerate_from (n + 1) ds))) (append_assoc before (s ∷ []) rest)
            (signals_have l (before ++ s ∷ []) after (n + 1) ds longer),
      )

  names_have : (l : Located) (before after : List PlainSignal) → length before ≡ l.base → HaveWidths (width_of (before ++ (signals_at us cs l ++ after))) (names_at l)
  names_have l before after e name i extent is =
      let room = width_of (before ++ (signals_at us cs l ++ after)) in
      each_meaning (HasWidth room) (known_values l.place.values ++ known_signals l)
      (each_joined (λ (k : Known). HasWidth room k.meaning) (known_values l.place.values) (known_signals l) (values_have room l.place.values)
      (signals_have l before after l.base (signals l.place.of) e)) name (Signal i extent) is

  -- and of all instances
  pub each_has : (before : List PlainSignal) (base : ℕ) (ps : List Place) → length before ≡ base
      → AllByRecursion (λ l. HaveWidths (width_of (before ++ flat_map (signals_at us cs) (located_from base ps))) (names_at l)) (located_from base ps)
  each_has before base [] e = tt
  each_has before base (p ∷ ps) e =
      let l : Located = record { place = p; base = base } in
      let here = signals_at us cs l in
      let next = base + length (signals p.of) in
      let rest = flat_map (signals_at us cs) (located_from next ps) in
      let longer : length (before ++ here) ≡ next =
      length-append before here ∙ ap (λ n. length before + n) (length-map (enumerate_from base (signals p.of)) (signal_at us cs l) ∙ length-enumerate_from base (signals p.of)) ∙ ap (λ n. n + length (signals p.of)) e in (
        names_have l before rest e,
        subst (λ (all : List PlainSignal). AllByRecursion (λ (x : Located). HaveWidths (width_of all) (names_at x)) (located_from next ps)) (append_assoc before here rest)
            (each_has (before ++ here) next ps longer),
      )

  -- ---- no signal is wide

  each_narrow : (ls : List Located) → AllByRecursion (λ (s : PlainSignal). s.extent.width ≤ 64) (flat_map (signals_at us cs) ls)
  each_narrow ls =
      each_flat (λ (l : Located). Unit {0}) (λ (s : PlainSignal). s.extent.width ≤ 64) (signals_at us cs)
      (λ l _. each_map (λ (s : PlainSignal). s.extent.width ≤ 64) (signal_at us cs l) (enumerate_from l.base (signals l.place.of))
      (each_always (λ (n : ℕ × Declared). (extent_in l.place n.1).width ≤ 64) (λ n. (place_extent l.place n.1).at_most_64) (enumerate_from l.base (signals l.place.of))))
      ls (each_always (λ (l : Located). Unit {0}) (λ l. tt) ls)

  narrow_at : (ss : List PlainSignal) (i : ℕ) → AllByRecursion (λ (s : PlainSignal). s.extent.width ≤ 64) ss → width_of ss i ≤ 64
  narrow_at [] i h = omega arith
  narrow_at (s ∷ ss) zero h = h.0
  narrow_at (s ∷ ss) (suc i) h = narrow_at ss i h.1

  pub narrow : (ls : List Located) (i : ℕ) → width_of (flat_map (signals_at us cs) ls) i ≤ 64
  narrow ls i = narrow_at (flat_map (signals_at us cs) ls) i (each_narrow ls)
