-- The first undeclared name of joined uses, and what the tables of a module tell of a name.
use Rattle.std.proofs.Common.{◌≡◌, ℕ, suc, ◌+◌, ◌≤◌, nat_lt, position, is_some, Bool, true, false, not, ◌||◌, cond, List, [], ◌∷◌, ◌++◌, length, map, filter, Some, None, refl, sym, ap, ◌∙◌, append_assoc, arith}
use Rattle.std.specs.List.{list_any, position_or_len, sum_by}
use Rattle.std.proofs.lemmas.Bool.Decides.{nat_tests}
use Rattle.std.proofs.lemmas.List.Sums.{sum_by-cons}
use Rattle.rst_tree.specs.Trees.{Text}
use Rattle.rst_tree.specs.Modules.{PlainItem, PlainModule}
use Rattle.rst_tree.specs.Modules as tree
use Rattle.rst_tree.specs.WellFormed.{WellFormed, parts_of_item}
use Rattle.rst_names.specs.declared.forms.Form.{Form}
use Rattle.rst_names.specs.declared.forms.Form.TheVariants.{Listed, Directed, Net, Parameter, Instance}
use Rattle.rst_names.specs.declared.facts.Facts.{Facts}
use Rattle.rst_names.specs.Faults.{first}
use Rattle.rst_names.specs.Declarations.{Declaration, declarations, declares, of_name, is_directed, is_input, is_output, is_signal, is_parameter, is_value}
use Rattle.rst_names.specs.Tables.{is_undeclared}
use Rattle.rst_name_faults.specs.NameRows.{Use, Used, undeclared, undeclared_in}
use Rattle.rst_name_faults.specs.Tables.{module_of, AreRight}

-- two tests of declarations together
any_or : {X : Type 0} (p q r : X → Bool) → ((x : X) → (p x || q x) ≡ r x) → (xs : List X) → (list_any p xs || list_any q xs) ≡ list_any r xs
any_or p q r each [] = refl
any_or p q r each (x ∷ xs) = shuffle (p x) (q x) (list_any p xs) (list_any q xs) ∙ ap (λ b. b || (list_any p xs || list_any q xs)) (each x) ∙ ap (λ b. r x || b) (any_or p q r each xs)
  where
    shuffle : (a b c d : Bool) → ((a || c) || (b || d)) ≡ ((a || b) || (c || d))
    shuffle true b c d = refl
    shuffle false true true d = refl
    shuffle false true false d = refl
    shuffle false false c d = refl

directed_form : (form : Form) → (is_input form || is_output form) ≡ is_directed form
directed_form Listed = refl
directed_form (Directed true reg) = refl
directed_form (Directed false reg) = refl
directed_form (Net reg) = refl
directed_form Parameter = refl
directed_form Instance = refl

module _ (ds : List Declaration) (name : Text) where
  pub directed : (declares is_input ds name || declares is_output ds name) ≡ declares is_directed ds name
  directed = any_or (λ d. is_input d.form) (λ d. is_output d.form) (λ d. is_directed d.form) (λ d. directed_form d.form) (of_name name ds)

  pub valued : (declares is_signal ds name || declares is_parameter ds name) ≡ declares is_value ds name
  valued = any_or (λ d. is_signal d.form) (λ d. is_parameter d.form) (λ d. is_value d.form) (λ d. refl) (of_name name ds)

within : {X : Type 0} (p : X → Bool) (xs : List X) → nat_lt (position_or_len p xs) (length xs) ≡ list_any p xs
within p [] = refl
within p (x ∷ xs) = by (p x) (within p xs)
  where
    next : (n k : ℕ) (b : Bool) → nat_lt n k ≡ b → nat_lt (1 + n) (suc k) ≡ b
    next n k true e = grind (arith, nat_tests)
    next n k false e = grind (arith, nat_tests)

    by : (b : Bool) → nat_lt (position_or_len p xs) (length xs) ≡ list_any p xs → nat_lt (cond (not b) (1 + position_or_len p xs) 0) (suc (length xs)) ≡ (b || list_any p xs)
    by true rest = grind (arith, nat_tests)
    by false rest = next (position_or_len p xs) (length xs) (list_any p xs) rest

-- one of two tests, the first of which is known
pub either_true : (a b i : Bool) → i ≡ a → i ≡ true → i ≡ (a || b)
either_true a b i e t = t ∙ sym (ap (λ x. x || b) (sym e ∙ t))

pub either_false : (a b i o : Bool) → i ≡ a → o ≡ b → i ≡ false → o ≡ (a || b)
either_false a b i o e same f = same ∙ sym (ap (λ x. x || b) (sym e ∙ f))

-- an element has a place where one passes
pub some_place : {X : Type 0} (p : X → Bool) (xs : List X) → is_some (position p xs) ≡ list_any p xs
some_place p xs = shown (nat_lt (position_or_len p xs) (length xs)) (position_or_len p xs) ∙ within p xs
  where
    shown : (b : Bool) (k : ℕ) → is_some (cond b (Some k) None) ≡ b
    shown true k = refl
    shown false k = refl

-- what the tables tell
module _ (f : Facts) (right : AreRight f) where
  abbrev ds : List Declaration
  ds = declarations (module_of f)

  pub told_undeclared : (name : Text) → is_undeclared f name ≡ not (declares is_value ds name)
  told_undeclared name = ap (λ t. not (t.signal || t.parameter)) (right.summaries name) ∙ ap not (valued ds name)

  pub undeclared_names : (names : List Text) → filter (is_undeclared f) names ≡ undeclared_in ds (map Used names)
  undeclared_names [] = refl
  undeclared_names (n ∷ ns) = by (declares is_value ds n) refl (told_undeclared n) (undeclared_names ns)
    where
      by : (b : Bool) → declares is_value ds n ≡ b → is_undeclared f n ≡ not (declares is_value ds n) → filter (is_undeclared f) ns ≡ undeclared_in ds (map Used ns)
          → filter (is_undeclared f) (n ∷ ns) ≡ undeclared_in ds (map Used (n ∷ ns))
      by true e told rest = rw (told, e) rest
      by false e told rest = rw (told, e) (ap (λ l. n ∷ l) rest)

-- the first of joined uses
module _ (ds : List Declaration) where
  joined : (a b : List Use) → undeclared_in ds (a ++ b) ≡ undeclared_in ds a ++ undeclared_in ds b
  joined [] b = refl
  joined (u ∷ a) b = ap (λ l. undeclared ds u ++ l) (joined a b) ∙ sym (append_assoc (undeclared ds u) (undeclared_in ds a) (undeclared_in ds b))

  first_append : (x : Text) (a b : List Text) → Some x ≡ first a → Some x ≡ first (a ++ b)
  first_append x [] b h = cc
  first_append x (y ∷ a) b h = h

  none_append : (a b : List Text) → None ≡ first a → first (a ++ b) ≡ first b
  none_append [] b h = refl
  none_append (y ∷ a) b h = cc

  pub used_front : (a b : List Use) (x : Text) → Some x ≡ first (undeclared_in ds a) → Some x ≡ first (undeclared_in ds (a ++ b))
  used_front a b x h = rw joined (first_append x (undeclared_in ds a) (undeclared_in ds b) h)

  pub used_behind : (a b : List Use) → None ≡ first (undeclared_in ds a) → first (undeclared_in ds (a ++ b)) ≡ first (undeclared_in ds b)
  used_behind a b h = ap first (joined a b) ∙ none_append (undeclared_in ds a) (undeclared_in ds b) h

pub ruleset uses = (used_front, used_behind)

-- a module of at most 1,048,576 parts has at most as many items
counted : {X : Type 0} (f : X → ℕ) → ((x : X) → 1 ≤ f x) → (xs : List X) → length xs ≤ sum_by f xs
counted f each [] = omega arith
counted f each (x ∷ xs) =
    let one = sum_by-cons f x xs in
    let here = each x in
    let rest = counted f each xs in
    omega arith

one_part : (item : PlainItem) → 1 ≤ parts_of_item item
one_part (tree.Port d) = omega arith
one_part (tree.Net d) = omega arith
one_part (tree.Params d) = omega arith
one_part (tree.Assigns as') = omega arith
one_part (tree.AlwaysBlock a) = omega arith
one_part (tree.Instances i) = omega arith

pub few_items : (m : PlainModule) → WellFormed m → length m.items ≤ 1048576
few_items m formed =
    let all = counted parts_of_item one_part m.items in
    let few = formed.few in
    omega arith
