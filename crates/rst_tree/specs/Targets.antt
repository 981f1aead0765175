-- Targets in plain form.
use Rattle.std.specs.Prelude.{ℕ, suc, max, List, [], ◌∷◌}
use Rattle.rst_tree.specs.declared.expr.Target.{Target, Row_of-Target, end_of-Target, more_of-Target}
use Rattle.rst_tree.specs.declared.expr.Target.TheVariants as target
use Rattle.rst_tree.specs.Trees.{Text, Tree, plain, height}

mutual
  pub data Place : Type 0 where
    Whole : Text → Place
    Bit : Text → Tree → Place
    Part : Text → Tree → Tree → Place
    Join : Places → Place

  pub data Places : Type 0 where
    end : Places
    more : Place → Places → Places

abbrev mutual
  pub plain_target : Target → Place
  plain_target (target.Whole n) = Whole n
  plain_target (target.Bit n i) = Bit n (plain i)
  plain_target (target.Part n h l) = Part n (plain h) (plain l)
  plain_target (target.Join' shape row) = Join (plain_target_row row)

  pub plain_target_row : {m : _} → Row_of-Target m → Places
  plain_target_row end_of-Target = end
  plain_target_row (more_of-Target x xs) = more (plain_target x) (plain_target_row xs)

-- the plain forms of a list
abbrev pub plain_targets : List Target → Places
plain_targets [] = end
plain_targets (x ∷ xs) = more (plain_target x) (plain_targets xs)

-- the height of a target, by the rule on nodes and their parts
abbrev mutual
  pub height_of_target : Place → ℕ
  height_of_target (Whole n) = 1
  height_of_target (Bit n i) = suc (height i)
  height_of_target (Part n h l) = suc (max (height h) (height l))
  height_of_target (Join es) = suc (greatest_target es)

  pub greatest_target : Places → ℕ
  greatest_target end = 0
  greatest_target (more x xs) = max (height_of_target x) (greatest_target xs)

-- a target behind the others
abbrev pub appended : Places → Place → Places
appended end e = more e end
appended (more x xs) e = more x (appended xs e)
