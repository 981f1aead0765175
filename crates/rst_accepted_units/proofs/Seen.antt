-- What an instance's items see of it is right: its signals have the widths that the flat design gives them.
use Rattle.std.proofs.Common.{◌≡◌, ℕ, zero, suc, ◌+◌, length, Bool, true, List, [], ◌∷◌, ◌++◌, Option, Some, None, refl, sym, subst}
use Rattle.std.specs.List.{AllByRecursion, flat_map}
use Rattle.std.specs.Option.{option_map}
use Rattle.rst_tree.specs.Trees.{Text}
use Rattle.rst_tree.specs.Modules.{PlainInstance, PlainCopied, PlainModule}
use Rattle.rst_width.specs.Scopes.{Extent, Signal, Later, AreMeanings}
use Rattle.rst_width.specs.Reads.{HaveWidths}
use Rattle.rst_cycle.specs.Signals.{width_of}
use Rattle.rst_names.specs.Faults.{first}
use Rattle.rst_names.specs.Names.{same_text}
use Rattle.rst_names.specs.Declarations.{settable, signal_named, signals}
use Rattle.rst_name_faults.specs.NameRows.{twice}
use Rattle.rst_hierarchy.specs.Hierarchy.{module_named, instances_in, is_used, Twice, BadPort, NoName, BadConnect, NoParameter, module_faults, row_faults, name_faults}
use Rattle.rst_instances.specs.Parameters.{links_to, names_behind}
use Rattle.rst_instances.specs.Places.{Place, Located, child, copies, children, below, top_place, instances, located_from, located, names_at, extent_in, copy_of, dot}
use Rattle.rst_items.specs.Seen.{Seen, seen, placed}
use Rattle.rst_items.specs.Items.{units, clocked}
use Rattle.rst_elab.specs.Flats.{signals_at}
use Rattle.rst_accepted.proofs.Rows.{left_none}
use Rattle.rst_accepted_units.proofs.Lists.{each_weaker, each_both, each_always, each_map, each_flat, each_found, none_in_kept}
use Rattle.rst_accepted_units.proofs.Reached.{IsUsed, below_zero, below_suc, each_used}
use Rattle.rst_accepted_units.proofs.Words.{AreValues, values_ok, behind_constant}
use Rattle.rst_accepted_units.proofs.Scopes.{names_right, never_later, each_has}
use Rattle.rst_accepted_units.proofs.Signals.{AreParameters, values_named, input_found, missing_bit}

-- a name stands for a signal of the width that it is seen with
pub record IsSignalOf (s : Seen) (name : Text) : Type 0 where
  pub number : ℕ
  pub extent : Extent
  pub is : s.names name ≡ Some (Signal number extent)
  pub width : extent.width ≡ s.width name

-- What an instance sees is right: its names stand for signals of these widths and for words. An input is a signal of its own, and a
-- name that stands for nothing is seen with one bit.
pub record IsRight (room : ℕ → ℕ) (s : Seen) : Type 0 where
  pub meanings : AreMeanings s.names
  pub widths : HaveWidths room s.names
  pub never : (name : Text) (ranged : Bool) → s.names name ≡ Some (Later ranged) → ⊥
  pub inputs : (name : Text) → (s.total name).input ≡ true → IsSignalOf s name
  pub missing : (name : Text) → s.names name ≡ None → s.width name ≡ 1

-- ---- instances

-- the values of an instance's parameters are words, and their names are those of its module's parameters
pub record HasValues (p : Place) : Type 0 where
  pub values : AreValues p.values
  pub named : AreParameters p.of p.values

module _ (modules : List PlainModule) where
  child_values : (p : Place) (i : PlainInstance) (m : PlainModule) (c : PlainCopied) → HasValues p → HasValues (child p i m c)
  child_values p i m c h = record {
    values = values_ok m (names_behind p.of p.values) (links_to (settable m) i.params) (behind_constant p.of p.values h.values);
    named = values_named m (names_behind p.of p.values) (links_to (settable m) i.params);
  }

  copies_values : (p : Place) (i : PlainInstance) (o : Option PlainModule) → HasValues p → AllByRecursion HasValues (copies p i o)
  copies_values p i None h = tt
  copies_values p i (Some m) h = each_map HasValues (child p i m) i.copies (each_always (λ (c : PlainCopied). HasValues (child p i m c)) (λ c. child_values p i m c h) i.copies)

  children_values : (p : Place) → HasValues p → AllByRecursion HasValues (children modules p)
  children_values p h =
      each_flat (λ (i : PlainInstance). Unit {0}) HasValues (λ i. copies p i (module_named modules i.of_module)) (λ i _. copies_values p i (module_named modules i.of_module) h)
      (flat_map instances_in p.of.items) (each_always (λ (i : PlainInstance). Unit {0}) (λ i. tt) (flat_map instances_in p.of.items))

  below_values : (n : ℕ) (p : Place) → HasValues p → AllByRecursion HasValues (below n modules p)
  below_values zero p h = subst (AllByRecursion HasValues) (sym (below_zero modules p)) (h, tt)
  below_values (suc n) p h =
      subst (AllByRecursion HasValues) (sym (below_suc modules n p))
      (h, each_flat HasValues HasValues (below n modules) (λ c k. below_values n c k) (children modules p) (children_values p h))

  top_values : (top : Text) (m : PlainModule) (clock : Option Text) → HasValues (top_place top m clock)
  top_values top m clock = record {
    values = values_ok m (names_behind m []) [] (behind_constant m [] tt);
    named = values_named m (names_behind m []) [];
  }

  -- no name of a used module is declared twice
  once : (m k : PlainModule) → first (name_faults modules m) ≡ None → IsUsed modules m k → first (twice k) ≡ None
  once m k none used =
      let row = left_none (row_faults modules m Twice) (flat_map (row_faults modules m) (BadPort ∷ NoName ∷ BadConnect ∷ NoParameter ∷ [])) none in
      each_found (λ x. is_used modules m x ≡ true → first (twice x) ≡ None) (λ x. same_text x.name used.named.name) modules k
      (none_in_kept (is_used modules m) (module_faults modules Twice) modules row) used.named.is used.used

  pub record IsRightPlace (p : Place) : Type 0 where
    pub has : HasValues p
    pub once : first (twice p.of) ≡ None

  each_place : (top : Text) (m : PlainModule) (clock : Option Text) → module_named modules top ≡ Some m → first (name_faults modules m) ≡ None
      → AllByRecursion IsRightPlace (instances modules top m clock)
  each_place top m clock is none =
      let p = top_place top m clock in
      each_weaker (λ (q : Place). HasValues q × IsUsed modules m q.of) IsRightPlace (λ q h. record { has = h.0; once = once m q.of none h.1 }) (instances modules top m clock)
      (each_both HasValues (λ (q : Place). IsUsed modules m q.of) (instances modules top m clock)
      (below_values 16 p (top_values top m clock)) (each_used modules p (record { name = top; is = is })))

  each_located : (base : ℕ) (ps : List Place) → AllByRecursion IsRightPlace ps → AllByRecursion (λ (l : Located). IsRightPlace l.place) (located_from base ps)
  each_located base [] h = tt
  each_located base (p ∷ ps) h = (h.0, each_located (base + length (signals p.of)) ps h.1)

  seen_right : (room : ℕ → ℕ) (l : Located) → IsRightPlace l.place → HaveWidths room (names_at l) → IsRight room (seen l)
  seen_right room l p h = record {
    meanings = names_right l p.has.values;
    widths = h;
    never = never_later l;
    inputs = λ name i.
        let here = input_found l name p.once p.has.named i in
        record { number = here.number; extent = extent_in l.place (signal_named l.place.of name); is = here.is; width = refl };
    missing = λ name none. missing_bit l name none;
  }

  -- the widths of the signals of these instances
  abbrev pub room_of : List Located → ℕ → ℕ
  room_of ls = width_of (flat_map (signals_at (units ls) (clocked ls)) ls)

  pub each_right : (top : Text) (m : PlainModule) (clock : Option Text) → module_named modules top ≡ Some m → first (name_faults modules m) ≡ None
      → AllByRecursion (λ (l : Located). IsRight (room_of (located (instances modules top m clock))) (seen l)) (located (instances modules top m clock))
  each_right top m clock is none =
      let ps = instances modules top m clock in
      let ls = located ps in
      each_weaker (λ (l : Located). IsRightPlace l.place × HaveWidths (room_of ls) (names_at l)) (λ (l : Located). IsRight (room_of ls) (seen l)) (λ l h. seen_right (room_of ls) l h.0 h.1) ls
      (each_both (λ (l : Located). IsRightPlace l.place) (λ (l : Located). HaveWidths (room_of ls) (names_at l)) ls
      (each_located 0 ps (each_place top m clock is none)) (each_has (units ls) (clocked ls) [] 0 ps refl))

-- the instance that a copy places is one of these
pub placed_right : (room : ℕ → ℕ) (ls : List Located) (l : Located) → AllByRecursion (λ (x : Located). IsRight room (seen x)) ls
    → (c : PlainCopied) (k : Seen) → placed ls l c ≡ Some k → IsRight room k
placed_right room ls l right c k is = by (copy_of ls l c) refl is
  where
    by : (o : Option Located) → copy_of ls l c ≡ o → option_map seen o ≡ Some k → IsRight room k
    by None found e = absurd cc
    by (Some x) found e =
        let same : seen x ≡ k = cc in
        subst (IsRight room) same
        (each_found (λ (y : Located). IsRight room (seen y)) (λ (y : Located). same_text y.place.prefix ((l.place.prefix ++ c.name) ++ dot)) ls x right found)
