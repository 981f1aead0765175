-- The signals that the code makes by its tables are those of the flat design.
use Rattle.std.proofs.Common.{◌≡◌, ℕ, zero, suc, ◌+◌, ◌<◌, ◌≤◌, ◌&&◌, cond, List, [], ◌∷◌, ◌++◌, map, length, Option, Some, None, slice_get, refl, sym, ap, subst, ◌∙◌, arith}
use Rattle.std.specs.List.{All, flat_map, sum_by, enumerate_from}
use Rattle.std.specs.Option.{option_map}
use Rattle.std.proofs.lemmas.List.{length-map}
use Rattle.std.proofs.lemmas.List.Concat.{length-flat_map}
use Rattle.std.proofs.lemmas.List.Elements.{All-head, All-tail, All-cons, All-nil}
use Rattle.std.proofs.lemmas.List.Sums.{sum_by-cons}
use Rattle.std.proofs.lemmas.Option.{slice_get_within, slice_get-map}
use Rattle.std.proofs.Math.Path.{fun_ext}
use Rattle.rst_tree.specs.Trees.{Text}
use Rattle.rst_tree.specs.Modules.{PlainModule}
use Rattle.rst_width.specs.declared.scope.SignalShape.{SignalShape}
use Rattle.rst_width.specs.Scopes.{Extent, extent_of}
use Rattle.rst_net.specs.declared.signal.Role.{Role}
use Rattle.rst_net.specs.declared.signal.Role.TheVariants as role
use Rattle.rst_net.specs.declared.signal.Signal.{Signal}
use Rattle.rst_net.specs.Units.{PlainDriver, PlainProcess, PlainSignal, plain_driver, plain_process, plain_signal}
use Rattle.rst_names.specs.declared.facts.Facts.{Facts}
use Rattle.rst_names.specs.Declarations.{Declared, signals}
use Rattle.rst_instances.specs.declared.design as memory
use Rattle.rst_instances.specs.Locations.{plain_located, IsLocated}
use Rattle.rst_instances.specs.Places.{Place, Located, extent_in, located, located_from}
use Rattle.rst_instances.specs.Tables.{module_at, plain_place}
use Rattle.rst_items.specs.declared.links.Whole.{Whole}
use Rattle.rst_items.specs.Seen.{Seen, seen}
use Rattle.rst_units.specs.declared.items.Units.{Units}
use Rattle.rst_items.specs.Items.{is_clock_name, units, clocked}
use Rattle.rst_items.specs.Tables.{seen_by, IsWhole}
use Rattle.rst_items.proofs.SeenLemmas.{IsSeen, instance-is}
use Rattle.rst_drivers.specs.declared.drives.Drive.{Drive}
use Rattle.rst_drivers.specs.Tables.{AreDrives}
use Rattle.rst_elab.specs.Flats.{driven_role, is_top, role_of, signal_at, signals_at, outputs_in, flat_of}
use Rattle.rst_elab.specs.Tables.{driven_by, driven_in, extent_or, signal_by, signals_by, signals_in, IsAll, AreUnits}

-- ---- what is numbered from two places

same_numbered : {X Y : Type 0} (f g : ℕ × X → Y) (a b : ℕ) (xs : List X) → ((i : ℕ) (x : X) → slice_get xs i ≡ Some x → f (a + i, x) ≡ g (b + i, x))
    → map f (enumerate_from a xs) ≡ map g (enumerate_from b xs)
same_numbered f g a b [] h = refl
same_numbered {X} f g a b (x ∷ xs) h = both first (same_numbered f g (a + 1) (b + 1) xs later)
  where
    first : f (a, x) ≡ g (b, x)
    first =
        let na : a ≡ a + 0 = omega arith in
        let nb : b + 0 ≡ b = omega arith in
        ap (λ n. f (n, x)) na ∙ h 0 x refl ∙ ap (λ n. g (n, x)) nb

    later : (i : ℕ) (y : X) → slice_get xs i ≡ Some y → f ((a + 1) + i, y) ≡ g ((b + 1) + i, y)
    later i y is =
        let na : (a + 1) + i ≡ a + suc i = omega arith in
        let nb : b + suc i ≡ (b + 1) + i = omega arith in
        ap (λ n. f (n, y)) na ∙ h (suc i) y is ∙ ap (λ n. g (n, y)) nb

    both : {Y : Type 0} {y z : Y} {ys zs : List Y} → y ≡ z → ys ≡ zs → y ∷ ys ≡ z ∷ zs
    both e k = λ i. e i ∷ k i

-- ---- roles

-- the table tells by what a signal is driven
module _ (us : List PlainDriver) (cs : List PlainProcess) (n : ℕ) (ds : List Drive) (are : AreDrives us cs n ds) where
  present : {X : Type 0} (xs : List X) (i : ℕ) → i < length xs → slice_get xs i ≡ None → ⊥
  present [] i h e = absurd (omega arith)
  present (x ∷ xs) zero h e = cc
  present (x ∷ xs) (suc i) h e = present xs i (omega arith) e

  driven-is : (i : ℕ) → i < n → driven_in ds i ≡ driven_role us cs i
  driven-is i h = by (slice_get ds i) refl
    where
      within : i < length ds
      within = let count = are.count in omega (arith, count)

      by : (o : Option Drive) → slice_get ds i ≡ o → driven_by o ≡ driven_role us cs i
      by None e = absurd (present ds i within e)
      by (Some d) e = let its = are.each i d e in rw (its.by_clocked, its.by_block, its.assigned) refl

-- ---- the numbers of signals

abbrev count_of : Located → ℕ
count_of l = length (signals l.place.of)

numbers : (base n : ℕ) (ps : List Place) → base + sum_by (λ p. length (signals p.of)) ps ≤ n → All (λ l. l.base + count_of l ≤ n) (located_from base ps)
numbers base n [] h = All-nil (λ l. l.base + count_of l ≤ n)
numbers base n (p ∷ ps) h =
    let sum : sum_by (λ (p : Place). length (signals p.of)) (p ∷ ps) ≡ length (signals p.of) + sum_by (λ (p : Place). length (signals p.of)) ps = sum_by-cons (λ (p : Place). length (signals p.of)) p ps in
    All-cons (λ l. l.base + count_of l ≤ n) (record { place = p; base = base }) (located_from (base + length (signals p.of)) ps) (omega arith)
    (numbers (base + length (signals p.of)) n ps (omega arith))

located-count : (base : ℕ) (ps : List Place) → sum_by count_of (located_from base ps) ≡ sum_by (λ p. length (signals p.of)) ps
located-count base [] = refl
located-count base (p ∷ ps) =
    sum_by-cons count_of (record { place = p; base = base }) (located_from (base + length (signals p.of)) ps)
    ∙ ap (λ k. length (signals p.of) + k) (located-count (base + length (signals p.of)) ps)
    ∙ sym (sum_by-cons (λ (p : Place). length (signals p.of)) p ps)

shape-count : (modules : List PlainModule) (ls : List memory.Located.Located) → All (IsLocated modules) ls
    → sum_by (λ l. length l.shapes.items) ls ≡ sum_by count_of (map (plain_located modules) ls)
shape-count modules [] all = refl
shape-count modules (l ∷ ls) all =
    let right : IsLocated modules l = All-head (IsLocated modules) l ls all in
    let here : length l.shapes.items ≡ length (signals (module_at modules l.place.of)) =
    sym (length-map l.shapes.items extent_of) ∙ ap length right.shapes_right ∙ length-map (signals (module_at modules l.place.of)) (extent_in (plain_place modules l.place)) in
    sum_by-cons (λ (l : memory.Located.Located). length l.shapes.items) l ls
    ∙ ap (λ k. k + sum_by (λ (l : memory.Located.Located). length l.shapes.items) ls) here
    ∙ ap (λ k. length (signals (module_at modules l.place.of)) + k) (shape-count modules ls (All-tail (IsLocated modules) l ls all))
    ∙ sym (sum_by-cons count_of (plain_located modules l) (map (plain_located modules) ls))

-- how many signals there are
pub all-count : (modules : List PlainModule) (ps : List Place) (w : Whole) → IsAll modules ps w
    → sum_by (λ l. length l.shapes.items) w.all.now ≡ sum_by (λ p. length (signals p.of)) ps
all-count modules ps w is = shape-count modules w.all.now is.whole.instances ∙ ap (sum_by count_of) is.all ∙ located-count 0 ps

-- ---- signals

extent_read : (es : List SignalShape) (p : Place) (ds : List Declared) → map extent_of es ≡ map (extent_in p) ds
    → (i : ℕ) (d : Declared) → slice_get ds i ≡ Some d → extent_or (slice_get es i) ≡ extent_in p d
extent_read es p ds same i d is =
    by (slice_get es i) (sym (slice_get-map extent_of es i) ∙ ap (λ xs. slice_get xs i) same ∙ slice_get-map (extent_in p) ds i ∙ ap (option_map (extent_in p)) is)
  where
    by : (o : Option SignalShape) → option_map extent_of o ≡ Some (extent_in p d) → extent_or o ≡ extent_in p d
    by None e = cc
    by (Some s) e = cc

abbrev signal_with : Text → Extent → Role → PlainSignal
signal_with name extent role = record { name = name; extent = extent; role = role }

-- the role of a signal that is driven so
abbrev role_with : Seen → Declared → Role → Role
role_with s d driven = cond (is_clock_name (s.leads d.name)) role.Clock (cond (is_top s.prefix && d.input) role.Input driven)

module _ (us : List PlainDriver) (cs : List PlainProcess) (n : ℕ) (drives : List Drive) (are : AreDrives us cs n drives) (modules : List PlainModule) (w : Whole) (is : IsWhole modules w) where
  place-signals : (l : memory.Located.Located) → IsLocated modules l → l.base + count_of (plain_located modules l) ≤ n
      → signals_in drives w l ≡ signals_at us cs (plain_located modules l)
  place-signals l right few = given (instance-is modules w is l right)
    where
      one : (f : Facts) → seen_by f l ≡ seen (plain_located modules l) → (i : ℕ) (d : Declared) → slice_get (signals (module_at modules l.place.of)) i ≡ Some d
          → signal_by drives f l (0 + i, d) ≡ signal_at us cs (plain_located modules l) (l.base + i, d)
      one f same i d at =
          let within : i < length (signals (module_at modules l.place.of)) = slice_get_within (signals (module_at modules l.place.of)) i d at in
          let below : l.base + i < n = omega arith in
          let extent : extent_or (slice_get l.shapes.items i) ≡ extent_in (plain_place modules l.place) d = extent_read l.shapes.items (plain_place modules l.place) (signals (module_at modules l.place.of)) right.shapes_right i d at in
          let driven : driven_in drives (l.base + i) ≡ driven_role us cs (l.base + i) = driven-is us cs n drives are (l.base + i) below in
          let role : role_of (driven_in drives) (seen_by f l) (l.base + i) d ≡ role_of (driven_role us cs) (seen (plain_located modules l)) (l.base + i) d =
          ap (λ s. role_of (driven_in drives) s (l.base + i) d) same ∙ ap (λ r. role_with (seen (plain_located modules l)) d r) driven in
          let start : 0 + i ≡ i = omega arith in
          ap (λ k. signal_by drives f l (k, d)) start
          ∙ ap (λ e. signal_with (l.place.prefix ++ d.name) e (role_of (driven_in drives) (seen_by f l) (l.base + i) d)) extent
          ∙ ap (λ r. signal_with (l.place.prefix ++ d.name) (extent_in (plain_place modules l.place) d) r) role

      given : IsSeen modules w l → signals_in drives w l ≡ signals_at us cs (plain_located modules l)
      given told =
          ap (signals_by drives l) told.has
          ∙ ap (λ ds. map (signal_by drives told.facts l) (enumerate_from 0 ds)) told.right.signal_facts
          ∙ same_numbered (signal_by drives told.facts l) (signal_at us cs (plain_located modules l)) 0 l.base (signals (module_at modules l.place.of)) (one told.facts told.same)

  all-signals : (ls : List memory.Located.Located) → All (IsLocated modules) ls → All (λ l. l.base + count_of l ≤ n) (map (plain_located modules) ls)
      → flat_map (signals_in drives w) ls ≡ flat_map (signals_at us cs) (map (plain_located modules) ls)
  all-signals [] all few = refl
  all-signals (l ∷ ls) all few =
      ap (λ xs. xs ++ flat_map (signals_in drives w) ls)
      (place-signals l (All-head (IsLocated modules) l ls all) (All-head (λ l. l.base + count_of l ≤ n) (plain_located modules l) (map (plain_located modules) ls) few))
      ∙ ap (λ xs. signals_at us cs (plain_located modules l) ++ xs)
      (all-signals ls (All-tail (IsLocated modules) l ls all) (All-tail (λ l. l.base + count_of l ≤ n) (plain_located modules l) (map (plain_located modules) ls) few))

-- The signals of all instances, by tables that say what drives each of them.
pub signals-are : (modules : List PlainModule) (ps : List Place) (w : Whole) (us : List PlainDriver) (cs : List PlainProcess) (n : ℕ) (drives : List Drive)
    → IsAll modules ps w → AreDrives us cs n drives → n ≡ sum_by (λ l. length l.shapes.items) w.all.now
    → flat_map (signals_in drives w) w.all.now ≡ flat_map (signals_at us cs) (located ps)
signals-are modules ps w us cs n drives is are count =
    let sum : n ≡ sum_by (λ (p : Place). length (signals p.of)) ps = count ∙ all-count modules ps w is in
    let few : All (λ l. l.base + count_of l ≤ n) (located ps) = numbers 0 n ps (omega arith) in
    all-signals us cs n drives are modules w is.whole w.all.now is.whole.instances (subst (All (λ l. l.base + count_of l ≤ n)) (sym is.all) few)
    ∙ ap (flat_map (signals_at us cs)) is.all

-- ---- the whole flat design

length-enumerate : {X : Type 0} (n : ℕ) (xs : List X) → length (enumerate_from n xs) ≡ length xs
length-enumerate n [] = refl
length-enumerate n (x ∷ xs) = ap suc (length-enumerate (n + 1) xs)

signals-count : (us : List PlainDriver) (cs : List PlainProcess) (ls : List Located) → length (flat_map (signals_at us cs) ls) ≡ sum_by count_of ls
signals-count us cs ls =
    length-flat_map (signals_at us cs) ls
    ∙ ap (λ f. sum_by f ls) (fun_ext (λ (l : Located). length-map (enumerate_from l.base (signals l.place.of)) (signal_at us cs l) ∙ length-enumerate l.base (signals l.place.of)))

-- What the code puts together, by tables of so many signals.
module _ (modules : List PlainModule) (ps : List Place) (w : Whole) (made : Units) (n : ℕ) (drives : List Drive) (is : IsAll modules ps w) (count : n ≡ sum_by (λ l. length l.shapes.items) w.all.now)
    (are : AreDrives (map plain_driver made.units.items) (map plain_process made.clocked.items) n drives) where
  abbrev us : List PlainDriver
  us = map plain_driver made.units.items

  abbrev cs : List PlainProcess
  cs = map plain_process made.clocked.items

  pub drives-fit : (ss : List Signal) → map plain_signal ss ≡ flat_map (signals_in drives w) w.all.now → AreDrives us cs (length ss) drives
  drives-fit ss same =
      let long : length ss ≡ n =
      sym (length-map ss plain_signal) ∙ ap length (same ∙ signals-are modules ps w us cs n drives is are count)
      ∙ signals-count us cs (located ps) ∙ located-count 0 ps ∙ sym (all-count modules ps w is) ∙ sym count in
      subst (λ (k : ℕ). AreDrives us cs k drives) (sym long) are

  pub flat-is : (ss : List PlainSignal) (os : List ℕ) (ds : List Declared) → AreUnits (located ps) made → ss ≡ flat_map (signals_in drives w) w.all.now → os ≡ outputs_in ds
      → record { signals = ss; units = us; clocked = cs; outputs = os } ≡ flat_of ds (located ps)
  flat-is ss os ds given same outputs =
      let signals-same : ss ≡ flat_map (signals_at (units (located ps)) (clocked (located ps))) (located ps) =
      same ∙ signals-are modules ps w us cs n drives is are count
      ∙ ap (λ xs. flat_map (signals_at xs cs) (located ps)) given.units ∙ ap (λ ys. flat_map (signals_at (units (located ps)) ys) (located ps)) given.clocked in
      λ i. record { signals = signals-same i; units = given.units i; clocked = given.clocked i; outputs = outputs i }
