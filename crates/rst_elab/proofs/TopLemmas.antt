-- The top of a design among its modules.
use Rattle.std.proofs.Common.{◌≡◌, ℕ, zero, suc, ◌<◌, nat_lt, Bool, true, false, cond, List, [], ◌∷◌, ◌++◌, length, position, Option, Some, None, slice_get, refl, sym, ap, subst, ◌∙◌, arith}
use Rattle.std.specs.List.{position_or_len}
use Rattle.std.specs.Option.{option_and_then}
use Rattle.std.proofs.lemmas.Bool.Decides.{nat_tests}
use Rattle.rst_tree.specs.Trees.{Text}
use Rattle.rst_tree.specs.Modules.{PlainModule}
use Rattle.rst_net.specs.Units.{PlainFlat}
use Rattle.rst_names.specs.declared.faults.ElabCode.TheVariants as code
use Rattle.rst_names.specs.declared.faults.ElabError.{ElabError}
use Rattle.rst_names.specs.Faults.{Tells, Refuses, first, fault_at}
use Rattle.rst_names.specs.Names.{same_text}
use Rattle.rst_names.proofs.RowLemmas.{none_append, refuses_head, refuses_behind}
use Rattle.rst_hierarchy.specs.Hierarchy.{module_named, text_faults, hierarchy_faults, name_faults}
use Rattle.rst_hierarchy.specs.Tables.{place_named}
use Rattle.rst_instances.specs.Places.{instances, located, top_place}
use Rattle.rst_instances.specs.RangeRows.{range_row_faults}
use Rattle.rst_items.specs.ItemRows.{item_row_faults}
use Rattle.rst_items.proofs.SeenLemmas.{first_read}
use Rattle.rst_drivers.specs.FlatRows.{flat_faults}
use Rattle.rst_elab.specs.Elaborated.{seen_first, clock_faults, located_faults, place_faults, flat_below, faults_below, faults_of_top, faults, IsFlat}

-- the module of a name stands at its place
named-at : (modules : List PlainModule) (name : Text) (o : Option ℕ) → o ≡ place_named modules name → module_named modules name ≡ option_and_then (slice_get modules) o
named-at modules name o is = sym (first_read (λ (m : PlainModule). same_text m.name name) modules) ∙ ap (option_and_then (slice_get modules)) (sym is)

within : {X : Type 0} (p : X → Bool) (xs : List X) (i : ℕ) → Some i ≡ position p xs → i < length xs
within p xs i is = by (nat_lt (position_or_len p xs) (length xs)) refl is
  where
    by : (b : Bool) → nat_lt (position_or_len p xs) (length xs) ≡ b → Some i ≡ cond b (Some (position_or_len p xs)) None → i < length xs
    by true e h =
        let same : i ≡ position_or_len p xs = cc in
        let less : position_or_len p xs < length xs = grind (arith, nat_tests) in
        omega arith
    by false e h = cc

present : (ms : List PlainModule) (k : ℕ) → k < length ms → slice_get ms k ≡ None → ⊥
present [] k h e = absurd (omega arith)
present (x ∷ xs) zero h e = cc
present (x ∷ xs) (suc k) h e = present xs k (omega arith) e

-- The module that stands at the top's place.
pub record IsTop (modules : List PlainModule) (top : Text) (i : ℕ) : Type 0 where
  pub of : PlainModule
  pub at : slice_get modules i ≡ Some of
  pub named : module_named modules top ≡ Some of

pub top-at : (modules : List PlainModule) (top name : Text) (i : ℕ) → name ≡ top → Some i ≡ place_named modules name → IsTop modules top i
top-at modules top name i same is = by (slice_get modules i) refl
  where
    there : i < length modules
    there = within (λ (m : PlainModule). same_text m.name name) modules i is

    found : module_named modules top ≡ slice_get modules i
    found = ap (module_named modules) (sym same) ∙ named-at modules name (Some i) is

    by : (o : Option PlainModule) → slice_get modules i ≡ o → IsTop modules top i
    by None e = absurd (present modules i there e)
    by (Some m) e = record { of = m; at = e; named = found ∙ e }

module _ (modules : List PlainModule) (top : Text) (clock : Option Text) (passes : first (text_faults modules) ≡ None) where
  -- no module is the top
  pub no-top : (e : ElabError) (name : Text) → name ≡ top → None ≡ place_named modules name → Tells e (fault_at code.NoTop [] 0) → Refuses e (faults modules top clock)
  no-top e name same is tells =
      let none : module_named modules top ≡ None = ap (module_named modules) (sym same) ∙ named-at modules name None is in
      refuses_behind e (text_faults modules) (faults_of_top modules top clock (module_named modules top)) passes
      (subst (λ (o : Option PlainModule). Refuses e (faults_of_top modules top clock o)) (sym none) (refuses_head e (fault_at code.NoTop [] 0) [] tells))

  module _ (m : PlainModule) (named : module_named modules top ≡ Some m) where
    opened : faults modules top clock ≡ text_faults modules ++ faults_below modules top clock m
    opened = ap (λ (o : Option PlainModule). text_faults modules ++ faults_of_top modules top clock o) named

    pub below-passes : first (faults_below modules top clock m) ≡ None → first (faults modules top clock) ≡ None
    below-passes h = ap first opened ∙ none_append (text_faults modules) (faults_below modules top clock m) passes h

    pub below-refuses : (e : ElabError) → Refuses e (faults_below modules top clock m) → Refuses e (faults modules top clock)
    below-refuses e h = subst (Refuses e) (sym opened) (refuses_behind e (text_faults modules) (faults_below modules top clock m) passes h)

none_behind : {X : Type 0} (a b : List X) → first (a ++ b) ≡ None → first b ≡ None
none_behind [] b h = h
none_behind (x ∷ a) b h = cc

-- The flat design of an accepted one has no fault itself.
pub flat-passes : (modules : List PlainModule) (top : Text) (clock : Option Text) (answer : PlainFlat) → IsFlat modules top clock answer → first (faults modules top clock) ≡ None
    → first (flat_faults answer) ≡ None
flat-passes modules top clock answer is none =
    let m = is.of in
    let ps = instances modules top m clock in
    let all : first (text_faults modules ++ faults_below modules top clock m) ≡ None =
    ap (λ (o : Option PlainModule). first (text_faults modules ++ faults_of_top modules top clock o)) (sym is.is_top) ∙ none in
    let places : first (place_faults clock (top_place top m clock) ps) ≡ None =
    none_behind (name_faults modules m) (place_faults clock (top_place top m clock) ps)
    (none_behind (hierarchy_faults modules m) (name_faults modules m ++ place_faults clock (top_place top m clock) ps)
    (none_behind (text_faults modules) (faults_below modules top clock m) all)) in
    let rows : first (clock_faults (seen_first (top_place top m clock)) clock (located ps) ++ flat_faults (flat_below modules top clock m)) ≡ None =
    none_behind (item_row_faults (located ps)) (clock_faults (seen_first (top_place top m clock)) clock (located ps) ++ flat_faults (flat_below modules top clock m))
    (none_behind (range_row_faults ps) (located_faults clock (top_place top m clock) ps) places) in
    ap (λ (f : PlainFlat). first (flat_faults f)) is.flat
    ∙ none_behind (clock_faults (seen_first (top_place top m clock)) clock (located ps)) (flat_faults (flat_below modules top clock m)) rows
