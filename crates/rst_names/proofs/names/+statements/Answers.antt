use Rattle.std.proofs.Common.{◌≡◌, ◌+◌, List, filter, drop, sym, ap, ◌∙◌, arith}
use Rattle.std.specs.Option.{option_copied}
use Rattle.rst_tree.specs.Trees.{Text, plain}
use Rattle.rst_tree.specs.declared.stmt.Stmt.{Stmt}
use Rattle.rst_tree.specs.declared.stmt.Arm.{Arm}
use Rattle.rst_tree.specs.Statements.{Statement, Case, plain_stmt, plain_arm, plain_arms, no_arm}
use Rattle.rst_tree.proofs.Rows.{plain_stmt-Case}
use Rattle.rst_names.specs.Faults.{first}
use Rattle.rst_names.specs.Names.{names_in, names_in_stmt, names_in_arms}
use Rattle.rst_names.proofs.Turns.{at, read}
use Rattle.rst_names.proofs.NameLemmas.{found_front, found_later, names-arm}
use Rattle.rst_names.proofs.names.+statements.Goals as goal

pub first_in_arms-returns-in-Some : goal.first_in_arms-returns-in-Some
first_in_arms-returns-in-Some g t c =
    let test = g.T.NameTest.test c.args.test.now in
    let xs = c.args.arms.now in
    let i = c.loop-arm.arm-index in
    let arm = c.arm-item.result in
    let others = plain_arms (drop (i + 1) xs) in
    let back = (at xs i arm (read xs i arm (omega arith) c.arm-item.is)).back in
    found_front test (names_in_arms (plain_arm arm no_arm)) (names_in_arms others) c.in-Some.found.now c.in-Some.ensures
    ∙ ap (λ (l : List Text). first (filter test l)) (sym (names-arm arm others))
    ∙ ap (λ (ys : List Arm). first (filter test (names_in_arms (plain_arms ys)))) (sym back)
    ∙ c.loop-arm.invariant

pub first_in_stmt-returns-in-None-first_in : goal.first_in_stmt-returns-in-None-first_in
first_in_stmt-returns-in-None-first_in g t c =
    let test = g.T.NameTest.test c.args.test.now in
    let case = c.in-Case.case in
    let whole : plain_stmt c.args.stmt.now ≡ Case case.wild (plain case.selector) (plain_arms case.arms.items) =
    ap (λ (s : Stmt). plain_stmt s) c.in-Case.is ∙ plain_stmt-Case case in
    found_later test (names_in_stmt (plain_stmt c.args.stmt.now)) (names_in (plain case.selector)) (names_in_arms (plain_arms case.arms.items))
    (option_copied c.first_in_arms.result) (ap (λ (s : Statement). names_in_stmt s) whole) c.in-None-first_in.ensures
    (c.first_in_arms.ensures ∙ ap (λ (xs : List Arm). first (filter test (names_in_arms (plain_arms xs)))) c.deref-in-None-first_in.ensures.value)
