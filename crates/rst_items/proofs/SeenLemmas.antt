-- An instance beside the tables of its module is the instance of the definitions, and so are the rows over all instances.
use Rattle.std.proofs.Common.{◌≡◌, ℕ, ◌+◌, ◌<◌, ◌≤◌, zero, suc, nat_lt, nat_eq, Bool, true, false, not, ◌||◌, cond, List, [], ◌∷◌, ◌++◌, map, filter, find, Option, Some, None, slice_get, get_or, length, position, refl, sym, ap, subst, ◌∙◌, arith}
use Rattle.std.proofs.lemmas.Bool.Decides.{nat_tests}
use Rattle.std.proofs.lemmas.Option.{slice_get_within, slice_get_past, slice_get-map, get_or_from_slice_get}
use Rattle.std.proofs.lemmas.List.{get_or-map, length-map}
use Rattle.std.proofs.lemmas.List.Elements.{All-get_or, All-head, All-tail}
use Rattle.std.proofs.lemmas.List.Folds.{find_at, list_any-append, flat_map-map}
use Rattle.std.proofs.Math.Path.{fun_ext}
use Rattle.std.specs.List.{All, flat_map, list_any, position_or_len}
use Rattle.std.specs.Option.{option_map, option_and_then}
use Rattle.std.specs.Cmp.Lexicographic.{pointwise}
use Rattle.indexmap.specs.IndexMap.{get}
use Rattle.rst_tree.specs.Trees.{Text}
use Rattle.rst_tree.specs.Modules.{PlainCopied, PlainItem, PlainModule, plain_module}
use Rattle.rst_width.specs.declared.scope.SignalShape.{SignalShape}
use Rattle.rst_width.specs.Scopes.{Extent, extent_of}
use Rattle.rst_names.specs.declared.facts.Facts.{Facts}
use Rattle.rst_names.specs.Names.{same_text, is_among}
use Rattle.rst_names.specs.Declarations.{Declaration, ports, declarations, first_range, of_name, signal_declarations, signal_names, signal_named, inner_names, signals}
use Rattle.rst_names.specs.Tables.{IsFacts, total_at, total_in}
use Rattle.rst_names.proofs.TableLemmas.{one_text}
use Rattle.rst_hierarchy.specs.Tables.{AreFacts, AreRight, module_of}
use Rattle.rst_instances.specs.declared.design as memory
use Rattle.rst_instances.specs.declared.places.Joined as memory_joined
use Rattle.rst_instances.specs.Parameters.{names_behind}
use Rattle.rst_instances.specs.Places.{Place, joined_of, extent_by, extent_in, width_in, with_prefix, dot}
use Rattle.rst_instances.specs.Tables.{joined_or_apart, leads_to, plain_ports, no_module, module_at, plain_place}
use Rattle.rst_items.specs.declared.links.Whole.{Whole}
use Rattle.rst_items.specs.Seen.{Seen, Placed, seen, placed}
use Rattle.rst_items.specs.Items.{of_instance}
use Rattle.rst_items.specs.Tables.{width_or, width_by, seen_by, facts_at, seen_in, seen_at, placed_in, by_tables, at_place, IsWhole, located_in}
use Rattle.rst_instances.specs.Locations.{plain_located, IsLocated}

-- ---- first places in lists

module _ {X : Type 0} (p : X → Bool) where
  -- the element at the first place is the first that passes
  pub first_read : (xs : List X) → option_and_then (slice_get xs) (position p xs) ≡ find p xs
  first_read xs = by (nat_lt (position_or_len p xs) (length xs)) refl
    where
      by : (b : Bool) → nat_lt (position_or_len p xs) (length xs) ≡ b
          → option_and_then (slice_get xs) (cond b (Some (position_or_len p xs)) None) ≡ find p xs
      by true e = sym (find_at p xs)
      by false e =
          let past : length xs ≤ position_or_len p xs = grind (arith, nat_tests) in
          sym (find_at p xs ∙ slice_get_past xs (position_or_len p xs) past)

  position-cons : (x : X) (xs : List X) → position p (x ∷ xs) ≡ cond (p x) (Some 0) (option_map suc (position p xs))
  position-cons x xs = by (p x) (nat_lt (position_or_len p xs) (length xs)) refl
    where
      by : (b less : Bool) → nat_lt (position_or_len p xs) (length xs) ≡ less
          → cond (nat_lt (cond (not b) (1 + position_or_len p xs) 0) (length (x ∷ xs))) (Some (cond (not b) (1 + position_or_len p xs) 0)) None
          ≡ cond b (Some 0) (option_map suc (cond less (Some (position_or_len p xs)) None))
      by true less e =
          let some : nat_lt 0 (length (x ∷ xs)) ≡ true = grind (arith, nat_tests) in
          rw some refl
      by false true e =
          let less : nat_lt (1 + position_or_len p xs) (length (x ∷ xs)) ≡ true = grind (arith, nat_tests) in
          let next : 1 + position_or_len p xs ≡ suc (position_or_len p xs) = omega arith in
          rw (less, next) refl
      by false false e =
          let past : nat_lt (1 + position_or_len p xs) (length (x ∷ xs)) ≡ false = grind (arith, nat_tests) in
          rw past refl

find-map : {X Y : Type 0} (p : Y → Bool) (v : X → Y) (xs : List X) → find p (map v xs) ≡ option_map v (find (λ x. p (v x)) xs)
find-map p v [] = refl
find-map p v (x ∷ xs) = by (p (v x)) (find-map p v xs)
  where
    by : (b : Bool) → find p (map v xs) ≡ option_map v (find (λ x. p (v x)) xs)
        → cond b (Some (v x)) (find p (map v xs)) ≡ option_map v (cond b (Some x) (find (λ x. p (v x)) xs))
    by true h = refl
    by false h = h

-- what is read behind a view
read-map : {X Y : Type 0} (v : X → Y) (xs : List X) (o : Option ℕ) → option_and_then (slice_get (map v xs)) o ≡ option_map v (option_and_then (slice_get xs) o)
read-map v xs None = refl
read-map v xs (Some i) = slice_get-map v xs i

-- a place in a list has an element
stands : {X : Type 0} (xs : List X) (i : ℕ) → i < length xs → slice_get xs i ≡ None → ⊥
stands [] i h e = absurd (omega arith)
stands (x ∷ xs) zero h e = cc
stands (x ∷ xs) (suc i) h e = stands xs i (omega arith) e

-- ---- where a name leads to

read-suc : {X : Type 0} (x : X) (xs : List X) (o : Option ℕ) → option_and_then (slice_get (x ∷ xs)) (option_map suc o) ≡ option_and_then (slice_get xs) o
read-suc x xs None = refl
read-suc x xs (Some i) = refl

read-nil : {X : Type 0} (o : Option ℕ) → option_and_then (slice_get {X = X} []) o ≡ None
read-nil None = refl
read-nil (Some i) = refl

-- the place of a port among the ports is that of what it leads to
ports-lead : (ns : List Text) (js : List memory_joined.Joined) (name : Text)
    → joined_or_apart (option_and_then (slice_get js) (position (λ n. same_text n name) ns)) ≡ joined_of (plain_ports ns js) name
ports-lead [] js name = refl
ports-lead (n ∷ ns) [] name = ap joined_or_apart (read-nil (position (λ m. same_text m name) (n ∷ ns)))
ports-lead (n ∷ ns) (j ∷ js) name = ap (λ o. joined_or_apart (option_and_then (slice_get (j ∷ js)) o)) (position-cons (λ m. same_text m name) n ns) ∙ by (ports-lead ns js name) (same_text n name) refl
  where
    by : joined_or_apart (option_and_then (slice_get js) (position (λ m. same_text m name) ns)) ≡ joined_of (plain_ports ns js) name → (b : Bool) → same_text n name ≡ b
        → joined_or_apart (option_and_then (slice_get (j ∷ js)) (cond b (Some 0) (option_map suc (position (λ m. same_text m name) ns)))) ≡ joined_of (plain_ports (n ∷ ns) (j ∷ js)) name
    by h true e = rw e refl
    by h false e = rw e (ap joined_or_apart (read-suc j js (position (λ m. same_text m name) ns)) ∙ h)

pub leads-is : (modules : List PlainModule) (f : Facts) (l : memory.Located.Located) → IsFacts (module_at modules l.place.of) f
    → leads_to l.place f ≡ joined_of (plain_place modules l.place).joins
leads-is modules f l is =
    fun_ext (λ name. ap (λ o. joined_or_apart (option_and_then (slice_get l.place.joins.items) o)) (is.port_places name)
    ∙ ports-lead (ports (module_at modules l.place.of)) l.place.joins.items name)

-- ---- the width of a signal

-- a name that stands in a list stands for itself
find_name : (names : List Text) (name : Text) → find (λ n. same_text n name) names ≡ cond (is_among names name) (Some name) None
find_name [] name = refl
find_name (n ∷ ns) name = by (same_text n name) refl (find_name ns name)
  where
    by : (b : Bool) → same_text n name ≡ b → find (λ m. same_text m name) ns ≡ cond (is_among ns name) (Some name) None
        → cond b (Some n) (find (λ m. same_text m name) ns) ≡ cond (b || is_among ns name) (Some name) None
    by true e h = ap Some (one_text n name e)
    by false e h = h

none-or : (a b : Bool) → (a || b) ≡ false → (a ≡ false) × (b ≡ false)
none-or true b e = cc
none-or false b e = (refl, e)

-- a name that is neither a port nor a signal beside the ports is no signal
not_inner : (given : List Text) (name : Text) (names : List Text) → is_among given name ≡ false
    → is_among (filter (λ n. not (is_among given n)) names) name ≡ false → is_among names name ≡ false
not_inner given name [] outside h = refl
not_inner given name (n ∷ ns) outside h = by (not_inner given name ns outside) (is_among given n) refl (same_text n name) refl h
  where
    by : (is_among (filter (λ m. not (is_among given m)) ns) name ≡ false → is_among ns name ≡ false) → (c : Bool) → is_among given n ≡ c → (b : Bool) → same_text n name ≡ b
        → is_among (cond (not c) (n ∷ filter (λ m. not (is_among given m)) ns) (filter (λ m. not (is_among given m)) ns)) name ≡ false
        → (b || is_among ns name) ≡ false
    by left true c true b h =
        let same : is_among given n ≡ is_among given name = ap (is_among given) (one_text n name b) in
        cc
    by left true c false b h = left h
    by left false c b e h =
        let parts = none-or (same_text n name) (is_among (filter (λ m. not (is_among given m)) ns) name) h in
        let rest : is_among ns name ≡ false = left parts.1 in
        let here : b ≡ false = sym e ∙ parts.0 in
        rw (here, rest) refl

none_of_name : (ds : List Declaration) (name : Text) → is_among (map (λ d. d.name) ds) name ≡ false → of_name name ds ≡ []
none_of_name [] name h = refl
none_of_name (d ∷ ds) name h =
    let parts = none-or (same_text d.name name) (is_among (map (λ d. d.name) ds) name) h in
    rw (parts.0) (none_of_name ds name parts.1)

-- the extent of what is read, 1 wide for nothing
abbrev width_of_extent : Option Extent → ℕ
width_of_extent None = 1
width_of_extent (Some e) = e.width

width_seen : (o : Option SignalShape) → width_or o ≡ width_of_extent (option_map extent_of o)
width_seen None = refl
width_seen (Some s) = refl

module _ (p : Place) (name : Text) where
  abbrev names : List Text
  names = ports p.of ++ inner_names p.of

  unranged : is_among names name ≡ false → 1 ≡ width_in p name
  unranged h =
      let parts = none-or (is_among (ports p.of) name) (is_among (inner_names p.of) name) (sym (list_any-append (λ n. same_text n name) (ports p.of) (inner_names p.of)) ∙ h) in
      let none : of_name name (signal_declarations (declarations p.of)) ≡ [] =
      none_of_name (signal_declarations (declarations p.of)) name (not_inner (ports p.of) name (signal_names (declarations p.of)) parts.0 parts.1) in
      ap (λ ds. (extent_by (names_behind p.of p.values) (list_any (λ d. d.signed) ds) (first_range ds)).width) (sym none)

  width_found : width_of_extent (option_map (extent_in p) (find (λ d. same_text d.name name) (signals p.of))) ≡ width_in p name
  width_found =
      ap (λ o. width_of_extent (option_map (extent_in p) o))
      (find-map (λ d. same_text d.name name) (signal_named p.of) names ∙ ap (option_map (signal_named p.of)) (find_name names name))
      ∙ by (is_among names name) refl
    where
      by : (b : Bool) → is_among names name ≡ b
          → width_of_extent (option_map (extent_in p) (option_map (signal_named p.of) (cond b (Some name) None))) ≡ width_in p name
      by true e = refl
      by false e = unranged e

-- the place of a signal
abbrev place_of : Place → Text → Option ℕ
place_of p name = position (λ d. same_text d.name name) (signals p.of)

pub width-is : (modules : List PlainModule) (f : Facts) (l : memory.Located.Located) → IsFacts (module_at modules l.place.of) f → IsLocated modules l
    → width_by f l ≡ width_in (plain_place modules l.place)
width-is modules f l is right = fun_ext one
  where
    one : (name : Text) → width_by f l name ≡ width_in (plain_place modules l.place) name
    one name =
        ap (λ o. width_or (option_and_then (slice_get l.shapes.items) o)) (is.signal_places name)
        ∙ width_seen (option_and_then (slice_get l.shapes.items) (place_of (plain_place modules l.place) name))
        ∙ ap width_of_extent
        (sym (read-map extent_of l.shapes.items (place_of (plain_place modules l.place) name))
        ∙ ap (λ es. option_and_then (slice_get es) (place_of (plain_place modules l.place) name)) right.shapes_right
        ∙ read-map (extent_in (plain_place modules l.place)) (signals (module_at modules l.place.of)) (place_of (plain_place modules l.place) name)
        ∙ ap (option_map (extent_in (plain_place modules l.place))) (first_read (λ d. same_text d.name name) (signals (module_at modules l.place.of))))
        ∙ width_found (plain_place modules l.place) name

-- ---- one instance

total-is : (m : PlainModule) (f : Facts) → IsFacts m f → total_at f ≡ total_in (declarations m)
total-is m f is = fun_ext is.summaries

pub seen-is : (modules : List PlainModule) (f : Facts) (l : memory.Located.Located) → IsFacts (module_at modules l.place.of) f → IsLocated modules l
    → seen_by f l ≡ seen (plain_located modules l)
seen-is modules f l is right = λ i. record {
  path = l.place.path;
  prefix = l.place.prefix;
  total = total-is (module_at modules l.place.of) f is i;
  names = right.names_right i;
  width = width-is modules f l is right i;
  leads = leads-is modules f l is i;
  port_names = is.port_names i;
}

-- ---- all instances

-- the module of an instance whose module has tables
pub facts-right : (modules : List PlainModule) (fs : List Facts) (of : ℕ) (f : Facts) → AreFacts modules fs → slice_get fs of ≡ Some f
    → IsFacts (module_at modules of) f
facts-right modules fs of f are is =
    let within : of < length fs = slice_get_within fs of f is in
    let here : get_or fs of f ≡ f = get_or_from_slice_get fs of f f is in
    let right : AreRight (get_or fs of f) = All-get_or AreRight fs of f within are.all in
    let its : module_at modules of ≡ module_of f = ap (λ ms. module_at ms of) (sym are.of) ∙ get_or-map module_of fs of f no_module within ∙ ap module_of here in
    subst (λ m. IsFacts m f) (sym its) (subst AreRight here right)

-- An instance whose module has these tables, and is seen by them as the definitions see it.
pub record IsSeen (modules : List PlainModule) (w : Whole) (l : memory.Located.Located) : Type 0 where
  pub facts : Facts
  pub has : facts_at w l ≡ Some facts
  pub right : IsFacts (module_at modules l.place.of) facts
  pub same : seen_by facts l ≡ seen (plain_located modules l)

module _ (modules : List PlainModule) (w : Whole) (is : IsWhole modules w) where
  abbrev fs : List Facts
  fs = w.design.now.facts.now

  pub instance-is : (l : memory.Located.Located) → IsLocated modules l → IsSeen modules w l
  instance-is l right = by (facts_at w l) refl
    where
      many : length fs ≡ length modules
      many = sym (length-map fs module_of) ∙ ap length is.declared.of

      by : (o : Option Facts) → facts_at w l ≡ o → IsSeen modules w l
      by None e = absurd (stands fs l.place.of (subst (λ n. l.place.of < n) (sym many) right.place_right.within) e)
      by (Some f) e =
          let told : IsFacts (module_at modules l.place.of) f = facts-right modules fs l.place.of f is.declared e in
          record { facts = f; has = e; right = told; same = seen-is modules f l told right }

  seen_in-is : (l : memory.Located.Located) → IsLocated modules l → seen_in w l ≡ Some (seen (plain_located modules l))
  seen_in-is l right =
      let told = instance-is l right in
      ap (option_map (λ f. seen_by f l)) told.has ∙ ap Some told.same

  -- the first instance that passes a test, as both see it
  found-is : (ls : List memory.Located.Located) → All (IsLocated modules) ls → (p : memory.Located.Located → Bool)
      → option_and_then (seen_in w) (find p ls) ≡ option_map (λ l. seen (plain_located modules l)) (find p ls)
  found-is [] all p = refl
  found-is (l ∷ ls) all p = by (p l) (found-is ls (All-tail (IsLocated modules) l ls all) p)
    where
      by : (b : Bool) → option_and_then (seen_in w) (find p ls) ≡ option_map (λ l. seen (plain_located modules l)) (find p ls)
          → option_and_then (seen_in w) (cond b (Some l) (find p ls)) ≡ option_map (λ l. seen (plain_located modules l)) (cond b (Some l) (find p ls))
      by true h = seen_in-is l (All-head (IsLocated modules) l ls all)
      by false h = h

  option_and_then-assoc : (o : Option ℕ) → option_and_then (seen_at w) o ≡ option_and_then (seen_in w) (option_and_then (slice_get w.all.now) o)
  option_and_then-assoc None = refl
  option_and_then-assoc (Some i) = refl

  abbrev names_so : Text → memory.Located.Located → Bool
  names_so prefix k = same_text k.place.prefix prefix

  pub placed-is : (l : memory.Located.Located) → placed_in w l ≡ placed (located_in modules w) (plain_located modules l)
  placed-is l = fun_ext one
    where
      by_prefix : (prefix : Text) → option_and_then (seen_at w) (get (pointwise nat_eq) w.prefixes.now prefix) ≡ option_map seen (with_prefix (located_in modules w) prefix)
      by_prefix prefix =
          ap (option_and_then (seen_at w)) (is.prefixes prefix)
          ∙ option_and_then-assoc (position (names_so prefix) w.all.now)
          ∙ ap (option_and_then (seen_in w)) (first_read (names_so prefix) w.all.now)
          ∙ found-is w.all.now is.instances (names_so prefix)
          ∙ option_map-map (find (names_so prefix) w.all.now)
          ∙ ap (option_map seen) (sym (find-map (λ k. same_text k.place.prefix prefix) (plain_located modules) w.all.now))
        where
          option_map-map : (o : Option memory.Located.Located) → option_map (λ l. seen (plain_located modules l)) o ≡ option_map seen (option_map (plain_located modules) o)
          option_map-map None = refl
          option_map-map (Some l) = refl

      one : (c : PlainCopied) → placed_in w l c ≡ placed (located_in modules w) (plain_located modules l) c
      one c = by_prefix ((l.place.prefix ++ c.name) ++ dot)

  -- what a row makes of an instance, and of all
  pub row-is : {X : Type 0} (row : Placed → Seen → List PlainItem → List X) (l : memory.Located.Located) → IsLocated modules l
      → at_place row w l ≡ of_instance row (located_in modules w) (plain_located modules l)
  row-is row l right =
      let told = instance-is l right in
      ap (by_tables row (placed_in w l) l) told.has
      ∙ ap (λ k. row k (seen_by told.facts l) (plain_module told.facts.module.now).items) (placed-is l)
      ∙ ap (λ s. row (placed (located_in modules w) (plain_located modules l)) s (plain_module told.facts.module.now).items) told.same
      ∙ ap (λ (m : PlainModule). row (placed (located_in modules w) (plain_located modules l)) (seen (plain_located modules l)) m.items) told.right.of

  rows-over : {X : Type 0} (row : Placed → Seen → List PlainItem → List X) (ls : List memory.Located.Located) → All (IsLocated modules) ls
      → flat_map (at_place row w) ls ≡ flat_map (λ l. of_instance row (located_in modules w) (plain_located modules l)) ls
  rows-over row [] all = refl
  rows-over row (l ∷ ls) all =
      ap (λ xs. xs ++ flat_map (at_place row w) ls) (row-is row l (All-head (IsLocated modules) l ls all))
      ∙ ap (λ xs. of_instance row (located_in modules w) (plain_located modules l) ++ xs) (rows-over row ls (All-tail (IsLocated modules) l ls all))

  pub rows-are : {X : Type 0} (row : Placed → Seen → List PlainItem → List X)
      → flat_map (at_place row w) w.all.now ≡ flat_map (of_instance row (located_in modules w)) (located_in modules w)
  rows-are row = rows-over row w.all.now is.instances ∙ sym (flat_map-map (of_instance row (located_in modules w)) (plain_located modules) w.all.now)
