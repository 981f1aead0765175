use Rattle.std.proofs.Common.{◌≡◌, List, filter, ap, ◌∙◌}
use Rattle.std.specs.Option.{option_copied}
use Rattle.rst_tree.specs.declared.expr.Expr.{Expr}
use Rattle.rst_tree.specs.Trees.{Tree, plain, plain_all, Repeat}
use Rattle.rst_tree.proofs.Rows.{plain-Repeat}
use Rattle.rst_names.specs.Faults.{first}
use Rattle.rst_names.specs.Names.{names_in, names_in_all}
use Rattle.rst_names.proofs.NameLemmas.{found_later}
use Rattle.rst_names.proofs.names.+names.Goals as goal

pub first_in-returns-in-None-first_in-5 : goal.first_in-returns-in-None-first_in-5
first_in-returns-in-None-first_in-5 g t c =
    let test = g.T.NameTest.test c.args.test.now in
    let count = plain c.in-Repeat.count.value in
    let parts = plain_all c.in-Repeat.parts.items in
    let whole : plain c.args.expr.now ≡ Repeat count parts =
    ap (λ (e : Expr). plain e) c.in-Repeat.is ∙ plain-Repeat c.in-Repeat.count c.in-Repeat.parts in
    found_later test (names_in (plain c.args.expr.now)) (names_in count) (names_in_all parts) (option_copied c.first_in_all-in-None-first_in-5.result)
    (ap (λ (e : Tree). names_in e) whole)
    (c.in-None-first_in-5.ensures ∙ ap (λ (e : Expr). first (filter test (names_in (plain e)))) c.deref-in-Repeat.ensures)
    (c.first_in_all-in-None-first_in-5.ensures
    ∙ ap (λ (es : List Expr). first (filter test (names_in_all (plain_all es)))) c.deref-in-None-first_in-5.ensures.value)
