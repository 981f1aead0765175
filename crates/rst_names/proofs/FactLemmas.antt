-- The tables of a module make its signals.
use Rattle.std.proofs.Common.{◌≡◌, ℕ, ◌+◌, suc, nat_lt, nat_eq, Bool, true, false, not, ◌||◌, cond, List, [], ◌∷◌, ◌++◌, length, map, filter, position, Option, Some, None, is_none, refl, sym, ap, ◌∙◌, arith}
use Rattle.std.specs.List.{list_any, position_or_len}
use Rattle.std.specs.Cmp.Lexicographic.{pointwise}
use Rattle.std.proofs.lemmas.Bool.Decides.{nat_tests}
use Rattle.std.proofs.lemmas.List.{map-append}
use Rattle.indexmap.specs.IndexMap.{IndexMap, get}
use Rattle.rst_tree.specs.Trees.{Text}
use Rattle.rst_names.specs.declared.facts.Summary.{Summary}
use Rattle.rst_names.specs.Names.{same_text, is_among}
use Rattle.rst_tree.specs.Modules.{PlainModule}
use Rattle.rst_names.specs.Declarations.{Declaration, Declared, declarations, ports as ports_of, signals, declared_in, signal_names}
use Rattle.rst_names.specs.Tables.{plain_summary, with_declaration, total_or, total_in, declared_by, signal_by, is_new}
use Rattle.rst_names.proofs.TableLemmas.{one_text}

map_same : {X Y : Type 0} (f g : X → Y) → ((x : X) → f x ≡ g x) → (xs : List X) → map f xs ≡ map g xs
map_same f g h [] = refl
map_same f g h (x ∷ xs) = ap (λ y. y ∷ map f xs) (h x) ∙ ap (λ ys. g x ∷ ys) (map_same f g h xs)

filter_same : {X : Type 0} (f g : X → Bool) → ((x : X) → f x ≡ g x) → (xs : List X) → filter f xs ≡ filter g xs
filter_same f g h [] = refl
filter_same f g h (x ∷ xs) = ap (λ b. cond b (x ∷ filter f xs) (filter f xs)) (h x) ∙ ap (λ ys. cond (g x) (x ∷ ys) ys) (filter_same f g h xs)

one_less : (a b : ℕ) → nat_lt (1 + a) (suc b) ≡ nat_lt a b
one_less a b = by (nat_lt a b) refl
  where
    by : (t : Bool) → nat_lt a b ≡ t → nat_lt (1 + a) (suc b) ≡ t
    by true e = grind (arith, nat_tests)
    by false e = grind (arith, nat_tests)

module _ {X : Type 0} (p : X → Bool) where
  any_before : (xs : List X) → nat_lt (position_or_len p xs) (length xs) ≡ list_any p xs
  any_before [] = refl
  any_before (x ∷ xs) = by (p x) (any_before xs)
    where
      by : (b : Bool) → nat_lt (position_or_len p xs) (length xs) ≡ list_any p xs
          → nat_lt (cond (not b) (1 + position_or_len p xs) 0) (suc (length xs)) ≡ (b || list_any p xs)
      by true h = grind (arith, nat_tests)
      by false h = one_less (position_or_len p xs) (length xs) ∙ h

  -- there is no place exactly where no element passes
  pub no_place : (xs : List X) → is_none (position p xs) ≡ not (list_any p xs)
  no_place xs = by (nat_lt (position_or_len p xs) (length xs)) ∙ ap not (any_before xs)
    where
      by : (b : Bool) → is_none (cond b (Some (position_or_len p xs)) None) ≡ not b
      by true = refl
      by false = refl

-- the ports, then the other signals, as the tables make them
abbrev pub joined : {S T : Type 0} → IndexMap Text Summary S → IndexMap Text ℕ T → List Declaration → List Text → List Declared
joined table places ds ports = map (signal_by table) ports ++ map (signal_by table) (filter (is_new places) (signal_names ds))

signals-are : {S T : Type 0} (table : IndexMap Text Summary S) (places : IndexMap Text ℕ T) (ds : List Declaration) (ports : List Text)
    → ((name : Text) → total_or (get (pointwise nat_eq) table name) ≡ total_in ds name)
    → ((name : Text) → get (pointwise nat_eq) places name ≡ position (λ n. same_text n name) ports)
    → joined table places ds ports ≡ map (declared_in ds) (ports ++ filter (λ n. not (is_among ports n)) (signal_names ds))
signals-are table places ds ports totals placed =
    ap (λ others. map (signal_by table) ports ++ map (signal_by table) others) (filter_same (is_new places) (λ n. not (is_among ports n)) new (signal_names ds))
    ∙ sym (map-append (signal_by table) ports (filter (λ n. not (is_among ports n)) (signal_names ds)))
    ∙ map_same (signal_by table) (declared_in ds) (λ name. ap (declared_by name) (totals name)) (ports ++ filter (λ n. not (is_among ports n)) (signal_names ds))
  where
    new : (n : Text) → is_new places n ≡ not (is_among ports n)
    new n = ap is_none (placed n) ∙ no_place (λ k. same_text k n) ports

-- these are the signals of the module
pub signals-of : {S T : Type 0} (m : PlainModule) (table : IndexMap Text Summary S) (places : IndexMap Text ℕ T) (ds : List Declaration) (ports : List Text)
    → ds ≡ declarations m → ports ≡ ports_of m
    → ((name : Text) → total_or (get (pointwise nat_eq) table name) ≡ total_in ds name)
    → ((name : Text) → get (pointwise nat_eq) places name ≡ position (λ n. same_text n name) ports)
    → joined table places ds ports ≡ signals m
signals-of m table places ds ports declared named totals placed =
    signals-are table places ds ports totals placed
    ∙ ap (λ (es : List Declaration). map (declared_in es) (ports ++ filter (λ n. not (is_among ports n)) (signal_names es))) declared
    ∙ ap (λ (ns : List Text). map (declared_in (declarations m)) (ns ++ filter (λ n. not (is_among ns n)) (signal_names (declarations m)))) named

-- a table in which one more declaration of a name has come
pub added_total : (table next : Text → Option Summary) (name : Text) (s : Summary) (d : Declaration)
    → plain_summary s ≡ with_declaration (total_or (table name)) d
    → ((q : Text) → next q ≡ cond (same_text name q) (Some s) (table q))
    → (q : Text) → total_or (next q) ≡ cond (same_text name q) (with_declaration (total_or (table q)) d) (total_or (table q))
added_total table next name s d sums gives q = by (same_text name q) refl (gives q)
  where
    by : (t : Bool) → same_text name q ≡ t → next q ≡ cond t (Some s) (table q) → total_or (next q) ≡ cond t (with_declaration (total_or (table q)) d) (total_or (table q))
    by true same g = ap total_or g ∙ sums ∙ ap (λ n. with_declaration (total_or (table n)) d) (one_text name q same)
    by false same g = ap total_or g
