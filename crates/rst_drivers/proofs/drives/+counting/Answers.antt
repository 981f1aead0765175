use Rattle.std.proofs.Common.{◌≡◌, ◌∙◌, List, [], ◌++◌, sym, ap}
use Rattle.std.proofs.lemmas.List.{append-nil}
use Rattle.std.proofs.lemmas.List.Sums.{fold-append}
use Rattle.rst_net.specs.declared.stmt.TypedArm.{TypedArm}
use Rattle.rst_net.specs.declared.stmt.TypedCase.{out-TypedCase}
use Rattle.rst_net.specs.Statements.{plain_stmt, plain_arms}
use Rattle.rst_drivers.specs.Drives.{sets_of, sets_of_arms, sets_of_default}
use Rattle.rst_drivers.specs.Counts.{with_block, at_signal, counted}
use Rattle.rst_drivers.proofs.Rows.{plain_default, plain_stmt-Case}
use Rattle.rst_drivers.proofs.drives.+counting.Goals as goal

pub count_stmt-returns-in-Some : goal.count_stmt-returns-in-Some
count_stmt-returns-in-Some t c =
    let step = with_block c.args.number c.args.clocked in
    let old = c.args.drives.now in
    let arms = sets_of_arms (plain_arms (out-TypedCase c.in-Case.case).arms.items) in
    let last = sets_of (plain_stmt c.in-Some.otherwise.value) in
    let whole : sets_of (plain_stmt c.args.stmt.now) ≡ arms ++ sets_of_default (plain_default (out-TypedCase c.in-Case.case).otherwise) =
    ap (λ s. sets_of (plain_stmt s)) c.in-Case.is ∙ ap sets_of (plain_stmt-Case c.in-Case.case) in
    let rest : sets_of_default (plain_default (out-TypedCase c.in-Case.case).otherwise) ≡ last = ap (λ o. sets_of_default (plain_default o)) c.in-Some.is in
    let before : c.count_arms.new.drives ≡ counted step old arms =
    c.count_arms.ensures ∙ ap (λ (l : List TypedArm). counted step old (sets_of_arms (plain_arms l))) c.deref-in-Case.ensures.value in
    let after : c.count_stmt-in-Some.new.drives ≡ counted step c.count_arms.new.drives last = cc in
    after ∙ ap (λ ds. counted step ds last) before ∙ sym (fold-append (at_signal step) old arms last) ∙ sym (ap (counted step old) (whole ∙ ap (λ l. arms ++ l) rest))

pub count_stmt-returns-in_default : goal.count_stmt-returns-in_default
count_stmt-returns-in_default t c =
    let step = with_block c.args.number c.args.clocked in
    let old = c.args.drives.now in
    let arms = sets_of_arms (plain_arms (out-TypedCase c.in-Case.case).arms.items) in
    let whole : sets_of (plain_stmt c.args.stmt.now) ≡ arms ++ sets_of_default (plain_default (out-TypedCase c.in-Case.case).otherwise) =
    ap (λ s. sets_of (plain_stmt s)) c.in-Case.is ∙ ap sets_of (plain_stmt-Case c.in-Case.case) in
    let rest : sets_of_default (plain_default (out-TypedCase c.in-Case.case).otherwise) ≡ [] = ap (λ o. sets_of_default (plain_default o)) c.in_default.is in
    c.count_arms.ensures ∙ ap (λ (l : List TypedArm). counted step old (sets_of_arms (plain_arms l))) c.deref-in-Case.ensures.value
    ∙ sym (ap (counted step old) (whole ∙ ap (λ l. arms ++ l) rest ∙ append-nil arms))
