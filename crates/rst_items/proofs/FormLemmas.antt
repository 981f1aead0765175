-- Reset forms by the tables of a module, blocks of one statement, and names that no test passes.
use Rattle.std.proofs.Common.{◌≡◌, ◌<◌, ◌≤◌, Bool, true, false, not, ◌||◌, cond, List, [], ◌∷◌, filter, length, get_or, Option, Some, None, is_none, is_some, Bor, refl, sym, ap, ◌∙◌, arith}
use Rattle.std.specs.List.{list_any}
use Rattle.std.specs.Option.{option_copied}
use Rattle.rst_tree.specs.declared.stmt.Stmt.{Stmt}
use Rattle.rst_tree.specs.Statements.{Block, plain_stmts}
use Rattle.rst_tree.specs.Modules.{PlainModule}
use Rattle.rst_names.specs.declared.facts.Facts.{Facts}
use Rattle.rst_names.specs.Faults.{first}
use Rattle.rst_names.specs.Tables.{is_signal_in, IsFacts, Total}
use Rattle.rst_items.specs.ResetForms.{is_signal_of, bare_stmt}

-- the tables tell the signals of the module
pub same_signals : (m : PlainModule) (f : Facts) → IsFacts m f → is_signal_in f ≡ is_signal_of m
same_signals m f is = λ i name. ap (λ (t : Total). t.signal) (is.summaries name) i

-- a list of one
pub one_item : {X : Type 0} (xs : List X) (x : X) → 1 ≤ length xs → length xs < 2 → x ≡ get_or xs 0 x → xs ≡ x ∷ []
one_item [] x some few is = absurd (omega arith)
one_item (y ∷ []) x some few is = ap (λ z. z ∷ []) (sym is)
one_item (y ∷ z ∷ zs) x some few is = absurd (omega arith)

-- a block that does not hold just one statement stays as it is
pub bare-other : (xs : List Stmt) → (length xs ≡ 1 → ⊥) → bare_stmt (Block (plain_stmts xs)) ≡ Block (plain_stmts xs)
bare-other [] other = refl
bare-other (x ∷ []) other = absurd (other refl)
bare-other (x ∷ y ∷ ys) other = refl

-- no name passes where the first one that does is none
pub none_passes : {X : Type 0} (p : X → Bool) (xs : List X) → is_none (first (filter p xs)) ≡ not (list_any p xs)
none_passes p [] = refl
none_passes p (x ∷ xs) = by (p x) (none_passes p xs)
  where
    by : (b : Bool) → is_none (first (filter p xs)) ≡ not (list_any p xs) → is_none (first (cond b (x ∷ filter p xs) (filter p xs))) ≡ not (b || list_any p xs)
    by true h = refl
    by false h = h

told_none : {X : Type 0} (found : Option (Bor X)) (none : Bool) → is_some found ≡ not none → none ≡ is_none (option_copied found)
told_none None true h = refl
told_none None false h = cc
told_none (Some x) true h = cc
told_none (Some x) false h = refl

pub none_found : {X : Type 0} (test : X → Bool) (names : List X) (found : Option (Bor X)) (none : Bool) → is_some found ≡ not none
    → option_copied found ≡ first (filter test names) → none ≡ not (list_any test names)
none_found test names found none some is = told_none found none some ∙ ap is_none is ∙ none_passes test names
