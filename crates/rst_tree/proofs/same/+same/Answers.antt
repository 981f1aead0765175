use Rattle.std.proofs.Common.{◌≡◌, ◌<◌, true, false, take, length, List, sym, ap, ◌∙◌, arith}
use Rattle.rst_tree.specs.declared.expr.Expr.{Expr}
use Rattle.rst_tree.specs.Trees.{Tree, Trees, plain, plain_all, Repeat, appended}
use Rattle.rst_tree.proofs.Rows.{plain-Repeat, take_longer, same_length, same_at}
use Rattle.rst_tree.proofs.same.+same.Goals as goal

not_true : false ≡ true → ⊥
not_true e = cc

pub all_same-returns-then-a-b : goal.all_same-returns-then-a-b
all_same-returns-then-a-b t c = (λ f. absurd (not_true f), λ same. absurd (c.if-a-b.true (same_length c.args.a.now c.args.b.now same)))

pub all_same-returns-then-not-same_expr : goal.all_same-returns-then-not-same_expr
all_same-returns-then-not-same_expr t c = (
  λ f. absurd (not_true f),
  λ same.
      let at = same_at c.args.a.now c.args.b.now c.loop-i.i c.index-a-i.result c.index-b-i.result same (omega arith) in
      sym c.if-not-same_expr.true ∙ c.same_expr.ensures.1 (ap (λ (x : Expr). plain x) c.index-a-i.is ∙ at ∙ sym (ap (λ (x : Expr). plain x) c.index-b-i.is)),
)

pub all_same-loop-i-preserved : goal.all_same-loop-i-preserved
all_same-loop-i-preserved t c =
    let i = c.loop-i.i in
    let xs = c.args.a.now in
    let ys = c.args.b.now in
    let x = c.index-a-i.result in
    let y = c.index-b-i.result in
    let within : i < length ys = omega arith in
    let same : plain x ≡ plain y = c.same_expr.ensures.0 c.if-not-same_expr.false in
    take_longer i xs x c.index-a-i.is (omega arith)
    ∙ ap (λ (ts : Trees). appended ts (plain x)) c.loop-i.invariant
    ∙ ap (appended (plain_all (take i ys))) same
    ∙ sym (take_longer i ys y c.index-b-i.is within)

same_parts : (m n : Tree) (es fs : Trees) → Repeat m es ≡ Repeat n fs → es ≡ fs
same_parts m n es fs same = cc

pub same_expr-returns-then-same_expr-5 : goal.same_expr-returns-then-same_expr-5
same_expr-returns-then-same_expr-5 t c =
    let es = c.in-Repeat-Repeat.a.items in
    let fs = c.in-Repeat-Repeat.b.items in
    let m = plain c.in-Repeat-Repeat.m.value in
    let n = plain c.in-Repeat-Repeat.n.value in
    let left : plain c.args.a.now ≡ Repeat m (plain_all es) = ap (λ (x : Expr). plain x) c.in-Repeat-Repeat.is-0 ∙ plain-Repeat c.in-Repeat-Repeat.m c.in-Repeat-Repeat.a in
    let right : plain c.args.b.now ≡ Repeat n (plain_all fs) = ap (λ (x : Expr). plain x) c.in-Repeat-Repeat.is-1 ∙ plain-Repeat c.in-Repeat-Repeat.n c.in-Repeat-Repeat.b in
    let counts : m ≡ n =
    sym (ap (λ (x : Expr). plain x) c.deref-in-Repeat-Repeat.ensures) ∙ c.same_expr-in-Repeat-Repeat.ensures.0 c.if-same_expr-5.true ∙ ap (λ (x : Expr). plain x) c.deref-in-Repeat-Repeat-2.ensures in
    let first : plain_all c.deref-then-same_expr-5.result.now ≡ plain_all es = ap (λ (xs : List Expr). plain_all xs) c.deref-then-same_expr-5.ensures.value in
    let second : plain_all c.deref-then-same_expr-5-2.result.now ≡ plain_all fs = ap (λ (xs : List Expr). plain_all xs) c.deref-then-same_expr-5-2.ensures.value in (
      λ is. left ∙ ap (λ k. Repeat k (plain_all es)) counts ∙ ap (Repeat n) (sym first ∙ c.all_same-then-same_expr-5.ensures.0 is ∙ second) ∙ sym right,
      λ same. c.all_same-then-same_expr-5.ensures.1 (first ∙ same_parts m n (plain_all es) (plain_all fs) (sym left ∙ same ∙ right) ∙ sym second),
    )
