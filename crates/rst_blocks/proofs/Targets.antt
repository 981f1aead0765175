-- The bits that a statement sets are those of its targets.
use Rattle.std.proofs.Common.{◌≡◌, ◌∙◌, refl, ap, ℕ, Bool, ◌||◌, List, ◌++◌}
use Rattle.std.proofs.lemmas.List.Folds.{list_any-append}
use Rattle.rst_net.specs.declared.signal.Slice.{Slice}
use Rattle.rst_net.specs.Statements.{Statement, Statements, Arms, Default, Block, If, Case, Set, Empty, end, more, no_arm, arm, no_default, default}
use Rattle.rst_cycle.specs.Drivers.{slice_has, target_has, sets, all_set, arms_set, default_sets}
use Rattle.rst_blocks.specs.Sets.{targets_in, targets_in_all, targets_in_arms, targets_in_default}

both : (i place : ℕ) (xs ys : List Slice) (a b : Bool) → target_has xs i place ≡ a → target_has ys i place ≡ b → target_has (xs ++ ys) i place ≡ (a || b)
both i place xs ys a b p q = list_any-append (slice_has i place) xs ys ∙ ap (λ (x : Bool). x || target_has ys i place) p ∙ ap (λ (y : Bool). a || y) q

mutual
  pub targets_in-sets : (st : Statement) (i place : ℕ) → target_has (targets_in st) i place ≡ sets st i place
  targets_in-sets (Block statements) i place = all-sets statements i place
  targets_in-sets (If condition first second) i place = both i place _ _ _ _ (targets_in-sets first i place) (targets_in-sets second i place)
  targets_in-sets (Case selector arms otherwise full) i place = both i place _ _ _ _ (arms-sets arms i place) (default-sets otherwise i place)
  targets_in-sets (Set set) i place = refl
  targets_in-sets Empty i place = refl

  all-sets : (ss : Statements) (i place : ℕ) → target_has (targets_in_all ss) i place ≡ all_set ss i place
  all-sets end i place = refl
  all-sets (more statement statements) i place = both i place _ _ _ _ (targets_in-sets statement i place) (all-sets statements i place)

  arms-sets : (others : Arms) (i place : ℕ) → target_has (targets_in_arms others) i place ≡ arms_set others i place
  arms-sets no_arm i place = refl
  arms-sets (arm labels body arms) i place = both i place _ _ _ _ (targets_in-sets body i place) (arms-sets arms i place)

  default-sets : (otherwise : Default) (i place : ℕ) → target_has (targets_in_default otherwise) i place ≡ default_sets otherwise i place
  default-sets no_default i place = refl
  default-sets (default statement) i place = targets_in-sets statement i place

pub ruleset targets = (targets_in-sets)
