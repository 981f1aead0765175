-- One turn of a row over modules: the first of two modules with one name, and a row over the modules that are marked.
use Rattle.std.proofs.Common.{◌≡◌, ℕ, ◌+◌, ◌≤◌, zero, suc, nat_lt, nat_eq, Bool, true, false, not, ◌||◌, cond, List, [], ◌∷◌, ◌++◌, length, map, filter, take, drop, position, is_none, is_some, Bor, Option, Some, None, slice_get, refl, sym, ap, subst, option_map, ◌∙◌, arith}
use Rattle.std.specs.List.{position_or_len, list_any, flat_map}
use Rattle.std.specs.Option.{option_copied}
use Rattle.std.proofs.lemmas.Bool.Decides.{nat_tests}
use Rattle.std.proofs.lemmas.Option.{slice_get-map, slice_get_within}
use Rattle.std.specs.Cmp.Lexicographic.{bytes_decides}
use Rattle.rst_tree.specs.Trees.{Text}
use Rattle.rst_tree.specs.Modules.{PlainCopied, PlainInstance, PlainModule}
use Rattle.rst_tree.specs.Modules as tree
use Rattle.rst_names.specs.declared.faults.ElabCode.TheVariants as code
use Rattle.rst_names.specs.declared.faults.ElabError.{ElabError}
use Rattle.rst_names.specs.Faults.{Fault, fault_at, first, Refuses, Tells}
use Rattle.rst_names.specs.Names.{same_text, is_among, repeats}
use Rattle.rst_names.proofs.Turns.{at}
use Rattle.rst_names.proofs.RowLemmas.{refuses_head, refuses_same, refuses_front, first-none_append}
use Rattle.rst_hierarchy.specs.Hierarchy.{module_named, unknown_in}
use Rattle.rst_hierarchy.specs.Tables.{place_named, is_place, mark_at, faults_where}
use Rattle.rst_hierarchy.proofs.PlaceLemmas.{Naming, known, unknown, naming, value_at}

self : (t : Text) → same_text t t ≡ true
self t = (bytes_decides t t).1 refl

abbrev pub name_of : PlainModule → Text
name_of m = m.name

-- two numbers are the same where the next ones are
next_same : (i n : ℕ) → nat_eq (suc i) (1 + n) ≡ nat_eq i n
next_same i n = by (nat_eq i n) refl
  where
    by : (b : Bool) → nat_eq i n ≡ b → nat_eq (suc i) (1 + n) ≡ b
    by true e = grind (arith, nat_tests)
    by false e = grind (arith, nat_tests)

-- the place of the first that passes, where one at i does
module _ {X : Type 0} (p : X → Bool) where
  first_or_later : (xs : List X) (i : ℕ) (x : X) → slice_get xs i ≡ Some x → p x ≡ true → position_or_len p xs ≤ i
  first_or_later [] i x is h = cc
  first_or_later (y ∷ ys) zero x is h =
      let same : y ≡ x = cc in
      let here : p y ≡ true = ap p same ∙ h in
      rw here (omega arith)
  first_or_later (y ∷ ys) (suc i) x is h = by (p y) (first_or_later ys i x is h)
    where
      by : (b : Bool) → position_or_len p ys ≤ i → cond (not b) (1 + position_or_len p ys) 0 ≤ suc i
      by true r = omega arith
      by false r = omega arith

  is_first : (xs : List X) (i : ℕ) (x : X) → slice_get xs i ≡ Some x → p x ≡ true → nat_eq i (position_or_len p xs) ≡ not (list_any p (take i xs))
  is_first [] i x is h = cc
  is_first (y ∷ ys) zero x is h =
      let same : y ≡ x = cc in
      let here : p y ≡ true = ap p same ∙ h in
      rw here refl
  is_first (y ∷ ys) (suc i) x is h = by (p y) (is_first ys i x is h)
    where
      by : (b : Bool) → nat_eq i (position_or_len p ys) ≡ not (list_any p (take i ys))
          → nat_eq (suc i) (cond (not b) (1 + position_or_len p ys) 0) ≡ not (b || list_any p (take i ys))
      by true r = let other : nat_eq (suc i) 0 ≡ false = grind (arith, nat_tests) in other
      by false r = next_same i (position_or_len p ys) ∙ r

  placed_first : (xs : List X) (i : ℕ) (x : X) → slice_get xs i ≡ Some x → p x ≡ true → is_place (position p xs) i ≡ not (list_any p (take i xs))
  placed_first xs i x is h =
      let within = slice_get_within xs i x is in
      let later = first_or_later xs i x is h in
      let less : nat_lt (position_or_len p xs) (length xs) ≡ true = grind (arith, nat_tests) in
      rw less (is_first xs i x is h)

-- names and modules before a place
among_names : (modules : List PlainModule) (i : ℕ) (name : Text) → is_among (take i (map name_of modules)) name ≡ list_any (λ m. same_text m.name name) (take i modules)
among_names [] zero name = refl
among_names [] (suc i) name = refl
among_names (m ∷ ms) zero name = refl
among_names (m ∷ ms) (suc i) name = ap (λ b. same_text m.name name || b) (among_names ms i name)

-- the modules that are left of the row TwoModules
abbrev pub two_left : List PlainModule → ℕ → List Fault
two_left modules i = map (λ n. fault_at code.TwoModules n 0) (repeats (take i (map name_of modules)) (drop i (map name_of modules)))

module _ (modules : List PlainModule) (i : ℕ) (x : PlainModule) (is : slice_get modules i ≡ Some x) where
  named_at : slice_get (map name_of modules) i ≡ Some x.name
  named_at = slice_get-map name_of modules i ∙ ap (option_map name_of) is

  opened : two_left modules i ≡ map (λ n. fault_at code.TwoModules n 0) (cond (is_among (take i (map name_of modules)) x.name) (x.name ∷ []) [] ++ repeats (take (i + 1) (map name_of modules)) (drop (i + 1) (map name_of modules)))
  opened =
      let turn = at (map name_of modules) i x.name named_at in
      ap (λ l. map (λ n. fault_at code.TwoModules n 0) (repeats (take i (map name_of modules)) l)) turn.back
      ∙ ap (λ l. map (λ n. fault_at code.TwoModules n 0) (cond (is_among (take i (map name_of modules)) x.name) (x.name ∷ []) [] ++ repeats l (drop (i + 1) (map name_of modules)))) (sym turn.front)

  told : (b : Bool) → is_place (place_named modules x.name) i ≡ b → is_among (take i (map name_of modules)) x.name ≡ not b
  told b h =
      let here = placed_first (λ m. same_text m.name x.name) modules i x is (self x.name) in
      by (list_any (λ m. same_text m.name x.name) (take i modules)) b (sym h ∙ here) (among_names modules i x.name)
    where
      by : (c b : Bool) → b ≡ not c → is_among (take i (map name_of modules)) x.name ≡ c → is_among (take i (map name_of modules)) x.name ≡ not b
      by true b e a = rw e a
      by false b e a = rw e a

  pub one_more : is_place (place_named modules x.name) i ≡ true → two_left modules i ≡ two_left modules (i + 1)
  one_more h = opened ∙ ap (λ b. map (λ n. fault_at code.TwoModules n 0) (cond b (x.name ∷ []) [] ++ repeats (take (i + 1) (map name_of modules)) (drop (i + 1) (map name_of modules)))) (told true h)

  pub twice_named : is_place (place_named modules x.name) i ≡ false → two_left modules i ≡ fault_at code.TwoModules x.name 0 ∷ two_left modules (i + 1)
  twice_named h = opened ∙ ap (λ b. map (λ n. fault_at code.TwoModules n 0) (cond b (x.name ∷ []) [] ++ repeats (take (i + 1) (map name_of modules)) (drop (i + 1) (map name_of modules)))) (told false h)

-- whether an item of instances has one
pub copied_some : {X : Type 0} (r : Option (Bor X)) → is_some (option_copied r) ≡ is_some r
copied_some None = refl
copied_some (Some x) = refl

pub no_copies : {X Y : Type 0} (f : X → Y) (cs : List X) → is_some (slice_get cs 0) ≡ false → map f cs ≡ []
no_copies f [] e = refl
no_copies f (c ∷ cs) e = cc

pub some_copies : {X Y : Type 0} (f : X → Y) (cs : List X) → is_some (slice_get cs 0) ≡ true → is_some (first (map f cs)) ≡ true
some_copies f [] e = cc
some_copies f (c ∷ cs) e = refl

-- the modules that an item places: one that is known, one that isn't, or none
module _ (modules : List PlainModule) (i : PlainInstance) where
  abbrev fault : Fault
  fault = fault_at code.NoModule i.of_module 0

  one : (e : ElabError) (cs : List PlainCopied) → is_some (first cs) ≡ true → Tells e fault → Refuses e (map (λ c. fault) cs)
  one e [] some tells = cc
  one e (c ∷ cs) some tells = refuses_head e fault (map (λ c. fault) cs) tells

  pub unknown_refused : (e : ElabError) → place_named modules i.of_module ≡ None → is_some (first i.copies) ≡ true → Tells e (fault_at code.NoModule i.of_module 0) → Refuses e (unknown_in modules (tree.Instances i))
  unknown_refused e none some tells = by (naming modules i.of_module)
    where
      by : Naming modules i.of_module → Refuses e (unknown_in modules (tree.Instances i))
      by (known k x h) = absurd (cc (none, h.place))
      by (unknown h) = subst (λ o. Refuses e (cond (is_none o) (map (λ c. fault) i.copies) [])) (sym h.of) (one e i.copies some tells)

  pub known_passes : (k : ℕ) → place_named modules i.of_module ≡ Some k → first (unknown_in modules (tree.Instances i)) ≡ None
  known_passes k some = by (naming modules i.of_module)
    where
      by : Naming modules i.of_module → first (unknown_in modules (tree.Instances i)) ≡ None
      by (known j x h) = ap (λ o. first (cond (is_none o) (map (λ c. fault) i.copies) [])) h.of
      by (unknown h) = absurd (cc (some, h.place))

  pub none_passes : i.copies ≡ [] → first (unknown_in modules (tree.Instances i)) ≡ None
  none_passes empty = ap (λ cs. first (cond (is_none (module_named modules i.of_module)) (map (λ c. fault) cs) [])) empty ∙ by (is_none (module_named modules i.of_module))
    where
      by : (b : Bool) → first {X = Fault} (cond b [] []) ≡ None
      by true = refl
      by false = refl

-- a row over the modules that are marked
module _ (test : PlainModule → Bool) (row : PlainModule → List Fault) (modules : List PlainModule) (i : ℕ) (x : PlainModule) (is : slice_get modules i ≡ Some x) (used : List Bool) (are : used ≡ map test modules) where
  abbrev left : ℕ → List Fault
  left n = faults_where test row (drop n modules)

  marked : mark_at used i ≡ test x
  marked = ap (λ marks. mark_at marks i) are ∙ value_at modules test false i x is

  taken : test x ≡ true → left i ≡ row x ++ left (i + 1)
  taken h = ap (faults_where test row) (at modules i x is).back ∙ ap (λ b. flat_map row (cond b (x ∷ filter test (drop (i + 1) modules)) (filter test (drop (i + 1) modules)))) h

  left_out : test x ≡ false → left i ≡ left (i + 1)
  left_out h = ap (faults_where test row) (at modules i x is).back ∙ ap (λ b. flat_map row (cond b (x ∷ filter test (drop (i + 1) modules)) (filter test (drop (i + 1) modules)))) h

  pub where_refuses : (e : ElabError) → mark_at used i ≡ true → first (left i) ≡ first (faults_where test row modules) → Refuses e (row x) → Refuses e (faults_where test row modules)
  where_refuses e mark all h = refuses_same e (row x ++ left (i + 1)) (faults_where test row modules) (ap first (sym (taken (sym marked ∙ mark))) ∙ all) (refuses_front e (row x) (left (i + 1)) h)

  pub where_goes_on : mark_at used i ≡ true → first (left i) ≡ first (faults_where test row modules) → first (row x) ≡ None → first (left (i + 1)) ≡ first (faults_where test row modules)
  where_goes_on mark all none = sym (ap first (taken (sym marked ∙ mark)) ∙ first-none_append (row x) (left (i + 1)) none) ∙ all

  pub where_left_out : mark_at used i ≡ false → first (left i) ≡ first (faults_where test row modules) → first (left (i + 1)) ≡ first (faults_where test row modules)
  where_left_out mark all = sym (ap first (left_out (sym marked ∙ mark))) ∙ all
