-- How many instances and signals a design has that passes the limits.
use Rattle.std.proofs.Common.{◌≡◌, ℕ, zero, suc, ◌+◌, ◌*◌, ◌^◌, ◌<◌, ◌≤◌, nat_lt, Bool, true, false, not, cond, List, [], ◌∷◌, ◌++◌, map, filter, length, Option, Some, None, refl, sym, ap, ◌∙◌, arith, length-append}
use Rattle.std.specs.List.{All, flat_map, filter_map, sum_by}
use Rattle.std.proofs.lemmas.Bool.Decides.{nat_tests}
use Rattle.std.proofs.lemmas.List.{length-map, map-append}
use Rattle.std.proofs.lemmas.List.Concat.{length-flat_map}
use Rattle.std.proofs.lemmas.List.Elements.{filter_map-append, All-head, All-tail, All-cons, All-nil}
use Rattle.std.proofs.lemmas.List.Sums.{sum_by-cons, sum_by-le, sum_by-le-sum_by}
use Rattle.std.proofs.Math.Path.{fun_ext}
use Rattle.rst_tree.specs.Trees.{Text}
use Rattle.rst_tree.specs.Modules.{PlainParamDecl, PlainPortDecl, PlainNetDecl, PlainInstance, PlainCopied, PlainHeader, PlainItem, PlainModule}
use Rattle.rst_tree.specs.Modules as tree
use Rattle.rst_tree.specs.WellFormed.{WellFormed, parts_of, parts_of_item, ports_of}
use Rattle.rst_names.specs.declared.faults.ElabCode.TheVariants as code
use Rattle.rst_names.specs.Faults.{first, fault_if}
use Rattle.rst_names.specs.Names.{is_among}
use Rattle.rst_names.specs.Declarations.{Declaration, declarations, param_declarations, header_declarations, item_declarations, port_declarations, is_signal, signal_names, signal_declarations, ports, ports_of_header, inner_names, signal_named, signals}
use Rattle.rst_hierarchy.specs.Hierarchy.{module_named, instances_in, placed_by, modules_placed, instance_count, instances_text, depth_limit, instance_limit, hierarchy_faults, row_faults, NoModule, Recursive}
use Rattle.rst_instances.specs.Places.{Place, children, child, copies, below, instances, top_place}
use Rattle.rst_instances.specs.declared.places.Place as memory
use Rattle.rst_instances.specs.Tables.{module_at, no_module, plain_place, IsPlace}

-- ---- instances are as many as the count says

sum_by-map : {X Y : Type 0} (f : Y → ℕ) (v : X → Y) (xs : List X) → sum_by f (map v xs) ≡ sum_by (λ x. f (v x)) xs
sum_by-map f v [] = refl
sum_by-map f v (x ∷ xs) = sum_by-cons f (v x) (map v xs) ∙ ap (λ n. f (v x) + n) (sum_by-map f v xs) ∙ sym (sum_by-cons (λ y. f (v y)) x xs)

-- the modules of what a copy places
copies-of : (modules : List PlainModule) (p : Place) (i : PlainInstance) (o : Option PlainModule) → module_named modules i.of_module ≡ o
    → map (λ k. k.of) (copies p i o) ≡ filter_map (module_named modules) (map (λ c. i.of_module) i.copies)
copies-of modules p i None is = none i.copies
  where
    none : (cs : List PlainCopied) → [] ≡ filter_map (module_named modules) (map (λ c. i.of_module) cs)
    none [] = refl
    none (c ∷ cs) = rw is (none cs)
copies-of modules p i (Some m) is = each i.copies
  where
    each : (cs : List PlainCopied) → map (λ k. k.of) (map (child p i m) cs) ≡ filter_map (module_named modules) (map (λ c. i.of_module) cs)
    each [] = refl
    each (c ∷ cs) = rw is (ap (λ ms. m ∷ ms) (each cs))

module _ (modules : List PlainModule) (p : Place) where
  abbrev placed_at : PlainInstance → List Place
  placed_at i = copies p i (module_named modules i.of_module)

  children-in : (items : List PlainItem) → map (λ k. k.of) (flat_map placed_at (flat_map instances_in items)) ≡ filter_map (module_named modules) (flat_map placed_by items)
  children-in [] = refl
  children-in (tree.Port d ∷ items) = children-in items
  children-in (tree.Net d ∷ items) = children-in items
  children-in (tree.Params d ∷ items) = children-in items
  children-in (tree.Assigns as' ∷ items) = children-in items
  children-in (tree.AlwaysBlock a ∷ items) = children-in items
  children-in (tree.Instances i ∷ items) =
      map-append (λ k. k.of) (placed_at i) (flat_map placed_at (flat_map instances_in items))
      ∙ ap (λ ms. ms ++ map (λ k. k.of) (flat_map placed_at (flat_map instances_in items))) (copies-of modules p i (module_named modules i.of_module) refl)
      ∙ ap (λ ms. filter_map (module_named modules) (map (λ c. i.of_module) i.copies) ++ ms) (children-in items)
      ∙ sym (filter_map-append (module_named modules) (map (λ c. i.of_module) i.copies) (flat_map placed_by items))

  children-of : map (λ k. k.of) (children modules p) ≡ modules_placed modules p.of
  children-of = children-in p.of.items

below-count : (n : ℕ) (modules : List PlainModule) (p : Place) → length (below n modules p) ≡ instance_count n modules p.of
unfolding below instance_count
below-count zero modules p = refl
below-count (suc n) modules p =
    let each : (λ (k : Place). length (below n modules k)) ≡ (λ (k : Place). instance_count n modules k.of) = fun_ext (below-count n modules) in
    ap suc (length-flat_map (below n modules) (children modules p)
    ∙ ap (λ f. sum_by f (children modules p)) each
    ∙ sym (sum_by-map (instance_count n modules) (λ (k : Place). k.of) (children modules p))
    ∙ ap (sum_by (instance_count n modules)) (children-of modules p))

-- ---- the limits hold where their rows have no fault

none_front : {X : Type 0} (a b : List X) → first (a ++ b) ≡ None → first a ≡ None
none_front [] b h = refl
none_front (x ∷ a) b h = h

none_back : {X : Type 0} (a b : List X) → first (a ++ b) ≡ None → first b ≡ None
none_back [] b h = h
none_back (x ∷ a) b h = cc

below_limit : (n : ℕ) → nat_lt 1024 n ≡ false → n ≤ 1024
below_limit n e = grind (arith, nat_tests)

pub few_instances : (modules : List PlainModule) (m : PlainModule) → first (hierarchy_faults modules m) ≡ None → instance_count 16 modules m ≤ 1024
few_instances modules m h = by (nat_lt 1024 (instance_count 16 modules m)) refl limits
  where
    limits : first (instance_limit modules m) ≡ None
    limits = none_back (depth_limit modules m) (instance_limit modules m) (none_back (flat_map (row_faults modules m) (NoModule ∷ Recursive ∷ [])) (depth_limit modules m ++ instance_limit modules m) h)

    by : (b : Bool) → nat_lt 1024 (instance_count 16 modules m) ≡ b → first (fault_if b code.Limit instances_text 0) ≡ None → instance_count 16 modules m ≤ 1024
    by false e none = below_limit (instance_count 16 modules m) e
    by true e none = cc

-- ---- a module that is well formed has few signals

filter_shorter : {X : Type 0} (p : X → Bool) (xs : List X) → length (filter p xs) ≤ length xs
filter_shorter p [] = omega arith
filter_shorter p (x ∷ xs) = by (p x) (filter_shorter p xs)
  where
    by : (b : Bool) → length (filter p xs) ≤ length xs → length (cond b (x ∷ filter p xs) (filter p xs)) ≤ length (x ∷ xs)
    by true h = omega arith
    by false h = omega arith

header-ports : (h : PlainHeader) → length (ports_of_header h) ≡ ports_of h
header-ports (tree.Plain names) = refl
header-ports (tree.Full ds) = length-flat_map (λ (d : PlainPortDecl). d.names) ds

header-declares : (h : PlainHeader) → length (header_declarations h) ≡ ports_of h
header-declares (tree.Plain names) = length-map names _
header-declares (tree.Full ds) = length-flat_map port_declarations ds ∙ ap (λ f. sum_by f ds) (fun_ext (λ (d : PlainPortDecl). length-map d.names _))

item-declares : (i : PlainItem) → length (item_declarations i) ≤ parts_of_item i
item-declares (tree.Port d) = let e : length (item_declarations (tree.Port d)) ≡ length d.names = length-map d.names _ in omega arith
item-declares (tree.Net d) = let e : length (item_declarations (tree.Net d)) ≡ length d.names = length-map d.names _ in omega arith
item-declares (tree.Params d) = let e : length (item_declarations (tree.Params d)) ≡ length d.names = length-map d.names _ in omega arith
item-declares (tree.Assigns as') = omega arith
item-declares (tree.AlwaysBlock a) = omega arith
item-declares (tree.Instances i) = let e : length (item_declarations (tree.Instances i)) ≡ length i.copies = length-map i.copies _ in omega arith

module _ (m : PlainModule) where
  declares : length (declarations m) ≤ parts_of m
  declares =
      let all : length (declarations m) ≡ length (flat_map param_declarations m.params) + length (header_declarations m.header ++ flat_map item_declarations m.items) = length-append (flat_map param_declarations m.params) (header_declarations m.header ++ flat_map item_declarations m.items) in
      let rest : length (header_declarations m.header ++ flat_map item_declarations m.items) ≡ length (header_declarations m.header) + length (flat_map item_declarations m.items) = length-append (header_declarations m.header) (flat_map item_declarations m.items) in
      let head : length (header_declarations m.header) ≡ ports_of m.header = header-declares m.header in
      let front : length (flat_map param_declarations m.params) ≡ sum_by (λ (d : PlainParamDecl). length d.names) m.params =
      length-flat_map param_declarations m.params ∙ ap (λ f. sum_by f m.params) (fun_ext (λ (d : PlainParamDecl). length-map d.names _)) in
      let count : length (flat_map item_declarations m.items) ≡ sum_by (λ i. length (item_declarations i)) m.items = length-flat_map item_declarations m.items in
      let fewer : sum_by (λ i. length (item_declarations i)) m.items ≤ sum_by parts_of_item m.items = sum_by-le-sum_by (λ i. length (item_declarations i)) parts_of_item m.items item-declares in
      omega arith

  pub ports-few : length (ports m) ≤ parts_of m
  ports-few =
      let is : length (ports m) ≡ ports_of m.header = header-ports m.header in
      omega arith

  signals-few : length (signals m) ≤ 2 * parts_of m
  signals-few =
      let all : length (signals m) ≡ length (ports m ++ inner_names m) = length-map (ports m ++ inner_names m) (signal_named m) in
      let two : length (ports m ++ inner_names m) ≡ length (ports m) + length (inner_names m) = length-append (ports m) (inner_names m) in
      let inner : length (inner_names m) ≤ length (signal_names (declarations m)) = filter_shorter (λ n. not (is_among (ports m) n)) (signal_names (declarations m)) in
      let named : length (signal_names (declarations m)) ≡ length (signal_declarations (declarations m)) = length-map (signal_declarations (declarations m)) _ in
      let some : length (signal_declarations (declarations m)) ≤ length (declarations m) = filter_shorter (λ (d : Declaration). is_signal d.form) (declarations m) in
      let most = declares in
      let outer = ports-few in
      omega (arith, most, outer)

-- ---- so the signals of all instances have numbers of 32 bits

all-few : (modules : List PlainModule) (ps : List memory.Place) → All WellFormed modules → All (IsPlace modules) ps
    → All (λ (p : Place). length (signals p.of) ≤ 2097152) (map (plain_place modules) ps)
all-few modules [] formed all = All-nil (λ (p : Place). length (signals p.of) ≤ 2097152)
all-few modules (p ∷ ps) formed all =
    let here : IsPlace modules p = All-head (IsPlace modules) p ps all in
    let its : WellFormed (module_at modules p.of) = formed p.of no_module here.within in
    let few : length (signals (module_at modules p.of)) ≤ 2 * parts_of (module_at modules p.of) = signals-few (module_at modules p.of) in
    let bound : parts_of (module_at modules p.of) ≤ 1048576 = its.few in
    All-cons (λ (p : Place). length (signals p.of) ≤ 2097152) (plain_place modules p) (map (plain_place modules) ps) (omega arith)
    (all-few modules ps formed (All-tail (IsPlace modules) p ps all))

pub few_signals : (modules : List PlainModule) (top : Text) (m : PlainModule) (clock : Option Text) (ps : List memory.Place)
    → All WellFormed modules → All (IsPlace modules) ps → instance_count 16 modules m ≤ 1024
    → map (plain_place modules) ps ≡ instances modules top m clock
    → sum_by (λ p. length (signals p.of)) (map (plain_place modules) ps) < 2 ^ 32
few_signals modules top m clock ps formed all few is =
    let most : sum_by (λ (p : Place). length (signals p.of)) (map (plain_place modules) ps) ≤ length (map (plain_place modules) ps) * 2097152 =
    sum_by-le (λ (p : Place). length (signals p.of)) 2097152 (map (plain_place modules) ps) (all-few modules ps formed all) in
    let many : length (map (plain_place modules) ps) ≡ instance_count 16 modules m = ap length is ∙ below-count 16 modules (top_place top m clock) in
    omega arith
