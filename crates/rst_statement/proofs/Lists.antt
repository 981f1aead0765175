-- Reading a list of targets one after the other, as a loop does.
use Rattle.std.proofs.Common.{◌≡◌, ℕ, zero, suc, List, [], ◌∷◌, length, Option, Some, refl, sym, ap, ◌∙◌}
use Rattle.rst_tree.specs.Targets.{Place, Places}
use Rattle.rst_tree.specs.Targets as targets
use Rattle.rst_grammar.specs.declared.symbol.Symbol.{Symbol}
use Rattle.rst_grammar.specs.declared.symbol.Symbol.TheVariants as symbol
use Rattle.rst_grammar.specs.declared.symbol.Terminal.TheVariants as terminal
use Rattle.rst_grammar.specs.ReadStatement.{TargetReader, more_targets}
use Rattle.rst_read.proofs.Chains.{Chain, with_front, with_first}
use Rattle.rst_read.proofs.Lists.{more_by, one_read, same_step}
use Rattle.rst_statement.specs.Parts.{targets_in}

pub joined_targets : Places → Places → Places
joined_targets targets.end ys = ys
joined_targets (targets.more x xs) ys = targets.more x (joined_targets xs ys)

pub before_no_target : (xs : Places) → joined_targets xs targets.end ≡ xs
unfolding joined_targets
before_no_target targets.end = refl
before_no_target (targets.more x xs) = ap (targets.more x) (before_no_target xs)

pub along_targets : (xs : Places) (x : Place) (ys : Places) → joined_targets (targets.appended xs x) ys ≡ joined_targets xs (targets.more x ys)
unfolding joined_targets
along_targets targets.end x ys = refl
along_targets (targets.more z zs) x ys = ap (targets.more z) (along_targets zs x ys)

pub behind_no_target : (xs : Places) → joined_targets targets.end xs ≡ xs
unfolding joined_targets
behind_no_target xs = refl

abbrev pub of_targets : Chain Place Places
of_targets = record { none = targets.end; more = targets.more; appended = targets.appended; joined = joined_targets; behind_none = behind_no_target; before_none = before_no_target; one = λ x. refl; along = along_targets }

more_targets-is : (target : TargetReader) (k : ℕ) (ts : List Symbol) → more_targets target k ts ≡ more_by of_targets target k ts
unfolding more_targets
more_targets-is target zero ts = refl
more_targets-is target (suc k) [] = refl
more_targets-is target (suc k) (symbol.Terminal terminal.Comma ∷ ts) = same_step (target ts) _ _ (λ first. ap (with_first of_targets first.0) (more_targets-is target k first.1))
more_targets-is target (suc k) (s ∷ ts) = refl

pub targets_begin : (target : TargetReader) (k : ℕ) (front : Places) (first : Place) (ts rest behind : List Symbol)
    → target ts ≡ Some (first, rest) → front ≡ targets.more first targets.end → behind ≡ rest → k ≡ length rest
    → with_front of_targets front (more_by of_targets target k behind) ≡ targets_in target ts
unfolding targets_in
targets_begin target k front first ts rest behind h e same n =
    one_read of_targets target k front first rest behind e same n ∙ ap (with_first of_targets first) (sym (more_targets-is target (length rest) rest)) ∙ rw h refl
