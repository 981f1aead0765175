-- The first name of joined lists that passes a test.
use Rattle.std.proofs.Common.{◌≡◌, Bool, true, false, cond, List, [], ◌∷◌, ◌++◌, filter, Option, Some, None, refl, sym, ap, ◌∙◌, append_assoc}
use Rattle.rst_tree.specs.Trees.{plain_all}
use Rattle.rst_tree.specs.Statements.{Arms, plain_stmt, plain_arm, no_arm}
use Rattle.rst_tree.specs.declared.stmt.Arm.{Arm}
use Rattle.rst_tree.specs.declared.stmt.Arm.TheVariants as arm
use Rattle.rst_tree.proofs.Rows.{plain-Join, plain-Repeat, plain_stmt-Block, plain_stmt-Case}
use Rattle.rst_names.specs.Faults.{first}
use Rattle.rst_names.specs.Names.{names_in_all, names_in_stmt, names_in_arms}

module _ {X : Type 0} (test : X → Bool) where
  -- one that is found in the front
  pub found_front : (a b : List X) (x : X) → Some x ≡ first (filter test a) → Some x ≡ first (filter test (a ++ b))
  found_front [] b x h = cc
  found_front (y ∷ a) b x h = by (test y) (found_front a b x) h
    where
      by : (t : Bool) → (Some x ≡ first (filter test a) → Some x ≡ first (filter test (a ++ b)))
          → Some x ≡ first (cond t (y ∷ filter test a) (filter test a)) → Some x ≡ first (cond t (y ∷ filter test (a ++ b)) (filter test (a ++ b)))
      by true more h = h
      by false more h = more h

  -- none is
  pub found_behind : (a b : List X) → None ≡ first (filter test a) → first (filter test (a ++ b)) ≡ first (filter test b)
  found_behind [] b h = refl
  found_behind (y ∷ a) b h = by (test y) (found_behind a b) h
    where
      by : (t : Bool) → (None ≡ first (filter test a) → first (filter test (a ++ b)) ≡ first (filter test b))
          → None ≡ first (cond t (y ∷ filter test a) (filter test a)) → first (cond t (y ∷ filter test (a ++ b)) (filter test (a ++ b))) ≡ first (filter test b)
      by true more h = cc
      by false more h = more h

  -- the same, of a list that the two make
  pub found_later : (whole a b : List X) (found : Option X) → whole ≡ a ++ b → None ≡ first (filter test a) → found ≡ first (filter test b)
      → found ≡ first (filter test whole)
  found_later whole a b found parts none there = there ∙ sym (found_behind a b none) ∙ ap (λ l. first (filter test l)) (sym parts)

-- the names of one arm stand before those of the others
pub names-arm : (a : Arm) (others : Arms) → names_in_arms (plain_arm a others) ≡ names_in_arms (plain_arm a no_arm) ++ names_in_arms others
names-arm (arm.Labels es s) others =
    let labels = names_in_all (plain_all es.items) in
    let body = names_in_stmt (plain_stmt s) in
    sym (append_assoc labels (body ++ []) (names_in_arms others) ∙ ap (λ l. labels ++ l) (append_assoc body [] (names_in_arms others)))
names-arm (arm.Otherwise s) others = sym (append_assoc (names_in_stmt (plain_stmt s)) [] (names_in_arms others))

pub ruleset trees = (plain-Join, plain-Repeat)

pub ruleset statements = (plain_stmt-Block, plain_stmt-Case, names-arm)
