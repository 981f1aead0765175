use Rattle.std.proofs.Common.{◌≡◌, List, [], ◌∷◌, sym, ap, ◌∙◌, arith}
use Rattle.rst_tree.specs.declared.stmt.Stmt.{Stmt}
use Rattle.rst_tree.specs.Statements.{Block, plain_stmt, plain_stmts}
use Rattle.rst_tree.proofs.Rows.{plain_stmt-Block}
use Rattle.rst_items.specs.ResetForms.{bare_stmt}
use Rattle.rst_items.proofs.FormLemmas.{one_item, bare-other}
use Rattle.rst_items.proofs.reset_forms.+bare_stmt.Goals as goal

pub returns-in-len1 : goal.returns-in-len1
returns-in-len1 t c =
    let items = c.as_slice.result.now in
    let part = c.part-item.result in
    let whole : plain_stmt c.args.stmt.now ≡ Block (plain_stmts items) =
    ap (λ (s : Stmt). plain_stmt s) c.in-Block.is ∙ plain_stmt-Block c.in-Block.parts ∙ ap (λ (xs : List Stmt). Block (plain_stmts xs)) (sym c.as_slice.ensures.value) in
    let one : items ≡ part ∷ [] = one_item items part c.in-len1.len_at_least c.in-len1.len_below c.part-item.is in
    c.bare_stmt.ensures ∙ sym (ap bare_stmt (whole ∙ ap (λ (xs : List Stmt). Block (plain_stmts xs)) one))

pub returns-in_default-as_slice : goal.returns-in_default-as_slice
returns-in_default-as_slice t c =
    let items = c.as_slice.result.now in
    let few = c.in_default-as_slice.len_below in
    let whole : plain_stmt c.args.stmt.now ≡ Block (plain_stmts items) =
    ap (λ (s : Stmt). plain_stmt s) c.in-Block.is ∙ plain_stmt-Block c.in-Block.parts ∙ ap (λ (xs : List Stmt). Block (plain_stmts xs)) (sym c.as_slice.ensures.value) in
    whole ∙ sym (ap bare_stmt whole ∙ bare-other items (λ one. absurd (omega (arith, few, one))))

pub returns-in_default-as_slice-2 : goal.returns-in_default-as_slice-2
returns-in_default-as_slice-2 t c =
    let items = c.as_slice.result.now in
    let many = c.in_default-as_slice.len_at_least in
    let whole : plain_stmt c.args.stmt.now ≡ Block (plain_stmts items) =
    ap (λ (s : Stmt). plain_stmt s) c.in-Block.is ∙ plain_stmt-Block c.in-Block.parts ∙ ap (λ (xs : List Stmt). Block (plain_stmts xs)) (sym c.as_slice.ensures.value) in
    whole ∙ sym (ap bare_stmt whole ∙ bare-other items (λ one. absurd (omega (arith, many, one))))
