-- Sizing is the table of expression sizing, row by row.
use Rattle.std.proofs.Common.{◌≡◌, ◌∙◌, ℕ, ◌+◌, min, max, Bool, true, false, cond, Option, Some, None, Ok, Err, refl, ap, arith, inl, inr}
use Rattle.std.proofs.lemmas.Bool.Decides.{leb_tells}
use Rattle.rst_word.specs.declared.ops.UnaryOp.{UnaryOp}
use Rattle.rst_word.specs.declared.ops.UnaryOp.TheVariants as unary
use Rattle.rst_word.specs.declared.ops.BinaryOp.{BinaryOp}
use Rattle.rst_word.specs.declared.ops.BinaryOp.TheVariants as binary
use Rattle.rst_word.specs.Words.{PlainWord}
use Rattle.rst_tree.specs.Trees.{Text, Tree, Trees}
use Rattle.rst_tree.specs.Trees as tree
use Rattle.rst_width.specs.declared.typed_expr.Shape.{Shape}
use Rattle.rst_width.specs.declared.typed_expr.WidthFault.TheVariants.{NoName}
use Rattle.rst_width.specs.Scopes.{Names, Meaning, Extent, Signal, Param, Later}
use Rattle.rst_width.specs.Typed.{Typed, typed, sized_as}
use Rattle.rst_width.specs.Typed as node
use Rattle.rst_width.specs.Sized.{Sized, Good, own, larger, in_context, is_division, divided, ◌>>=◌}
use Rattle.rst_width.specs.Sizing.{WorksInContext, Kind, Arithmetic, Moving, Comparing, Deciding, kind_of, one_bit, above, repeat_shape, join_found, counted_found, named, unary_sized, binary_sized, sized, sized_parts}
use Rattle.rst_width.specs.Table.{declared_shape, unary_shape, binary_shape, itself, becomes, stands, number, table_shape, table_sum, each_itself}
use Rattle.rst_width.specs.Answers.{own_shape, placed_shape, placed_answer}
use Rattle.rst_width.specs.Cut.{cut_shape}
use Rattle.rst_width.proofs.Cuts.{wide}

named-own : (name : Text) (m : Option Meaning) → own (named false name m) ≡ declared_shape m
named-own name None = refl
named-own name (Some (Signal i extent)) = refl
named-own name (Some (Param w)) = refl
named-own name (Some (Later ranged)) = refl

unary-own : (op : UnaryOp) (a : Sized) (x : Shape) → own a ≡ x → own (unary_sized op a) ≡ unary_shape op x
unary-own unary.Plus a x h = h
unary-own unary.Minus a x h = h
unary-own unary.Invert a x h = h
unary-own _ a x h = refl

binary-own : (kind : Kind) (op : BinaryOp) (a b : Sized) (x y : Shape) → own a ≡ x → own b ≡ y → own (binary_sized kind op a b) ≡ binary_shape kind x y
binary-own Arithmetic op a b x y h k = rw (h, k) refl
binary-own Moving op a b x y h k = h
binary-own Comparing op a b x y h k = refl
binary-own Deciding op a b x y h k = refl

mutual
  pub own-table : (names : Names) (e : Tree) → own (sized false names e) ≡ table_shape names e
  own-table names (tree.Number n) = refl
  own-table names (tree.Name n) = named-own n (names n)
  own-table names (tree.Bit n i) = refl
  own-table names (tree.Part n h l) = refl
  own-table names (tree.Paren e) = own-table names e
  own-table names (tree.Unary op e) = unary-own op (sized false names e) _ (own-table names e)
  own-table names (tree.Binary op a b) = binary-own (kind_of op) op (sized false names a) (sized false names b) _ _ (own-table names a) (own-table names b)
  own-table names (tree.Choose c a b) = ap (λ (x : Shape). larger x (own (sized false names b))) (own-table names a) ∙ ap (λ (x : Shape). larger (table_shape names a) x) (own-table names b)
  own-table names (tree.Join es) = ap (λ (w : ℕ). sized_as w false) (sum-table names es)
  own-table names (tree.Repeat n es) = ap (λ (w : ℕ). repeat_shape (number names n) w) (sum-table names es)
  own-table names (tree.Signed e) = ap (λ (x : Shape). sized_as x.width true) (own-table names e)
  own-table names (tree.Unsigned e) = ap (λ (x : Shape). sized_as x.width false) (own-table names e)

  pub sum-table : (names : Names) (es : Trees) → (sized_parts false names es).width ≡ table_sum names es
  sum-table names tree.end = refl
  sum-table names (tree.more x xs) =
      ap (λ (s : Shape). s.width + (sized_parts false names xs).width) (own-table names x) ∙ ap (λ (w : ℕ). (table_shape names x).width + w) (sum-table names xs)

-- each row in a context
module _ (names : Names) where
  pub undeclared : (n : Text) (c : Shape) → names n ≡ None → becomes names (tree.Name n) c ≡ Err (NoName n)
  undeclared n c h = ap (λ (m : Option Meaning). in_context true (named false n m) c) h

  pub signal : (n : Text) (i : ℕ) (x : Extent) (c : Shape) → names n ≡ Some (Signal i x) → becomes names (tree.Name n) c ≡ stands (sized_as x.width x.signed) (Good (node.Signal i)) c
  signal n i x c h = ap (λ (m : Option Meaning). in_context true (named false n m) c) h

  pub parameter : (n : Text) (w : PlainWord) (c : Shape) → names n ≡ Some (Param w) → becomes names (tree.Name n) c ≡ stands (sized_as w.width w.signed) (Good (node.Word w)) c
  parameter n w c h = ap (λ (m : Option Meaning). in_context true (named false n m) c) h

  pub signs : (op : UnaryOp) (e : Tree) (c : Shape) → WorksInContext op → becomes names (tree.Unary op e) c ≡ (becomes names e c >>= λ x. Ok (typed c (node.Unary op x)))
  signs unary.Plus e c h = refl
  signs unary.Minus e c h = refl
  signs unary.Invert e c h = refl
  signs _ e c h = absurd h

  pub reductions : (op : UnaryOp) (e : Tree) (c : Shape) → (WorksInContext op → ⊥) → becomes names (tree.Unary op e) c ≡ stands one_bit (above (itself names e) (λ x. node.Unary op x)) c
  reductions unary.Plus e c h = absurd (h tt)
  reductions unary.Minus e c h = absurd (h tt)
  reductions unary.Invert e c h = absurd (h tt)
  reductions op e c h = refl

  -- an operator of this kind
  pub of_kind : (op : BinaryOp) (kind : Kind) (a b : Tree) (c : Shape) → kind_of op ≡ kind
      → becomes names (tree.Binary op a b) c ≡ in_context true (binary_sized kind op (sized false names a) (sized false names b)) c
  of_kind op kind a b c h = ap (λ (k : Kind). in_context true (binary_sized k op (sized false names a) (sized false names b)) c) h

  by_division : (op : BinaryOp) (a b : Tree) (c : Shape) (d : Bool) → is_division op ≡ d
      → in_context true (binary_sized Arithmetic op (sized false names a) (sized false names b)) c
      ≡ (becomes names a c >>= λ x. becomes names b c >>= λ y. cond d (divided true c op x y) (Ok (typed c (node.Binary op x y))))
  by_division op a b c d h =
      ap (λ (v : Bool). becomes names a c >>= λ x. becomes names b c >>= λ y. cond v (divided true c op x y) (Ok (typed c (node.Binary op x y)))) h

  pub sums : (op : BinaryOp) (a b : Tree) (c : Shape) → kind_of op ≡ Arithmetic → is_division op ≡ false
      → becomes names (tree.Binary op a b) c ≡ (becomes names a c >>= λ x. becomes names b c >>= λ y. Ok (typed c (node.Binary op x y)))
  sums op a b c h k = of_kind op Arithmetic a b c h ∙ by_division op a b c false k

  division_kind : (op : BinaryOp) → is_division op ≡ true → kind_of op ≡ Arithmetic
  division_kind binary.Div h = refl
  division_kind binary.Rem h = refl
  division_kind _ h = cc

  pub divisions : (op : BinaryOp) (a b : Tree) (c : Shape) → is_division op ≡ true
      → becomes names (tree.Binary op a b) c ≡ (becomes names a c >>= λ x. becomes names b c >>= λ y. divided true c op x y)
  divisions op a b c h = of_kind op Arithmetic a b c (division_kind op h) ∙ by_division op a b c true h

  pub joins : (es : Trees) (c : Shape) → becomes names (tree.Join es) c ≡ stands (sized_as (table_sum names es) false) (join_found (each_itself names es)) c
  joins es c = ap (λ (w : ℕ). stands (sized_as w false) (join_found (each_itself names es)) c) (sum-table names es)

  pub repetitions : (n : Tree) (es : Trees) (c : Shape)
      → becomes names (tree.Repeat n es) c ≡ stands (repeat_shape (number names n) (table_sum names es)) (counted_found (itself names n) (table_sum names es) (each_itself names es)) c
  repetitions n es c = ap (λ (w : ℕ). stands (repeat_shape (number names n) w) (counted_found (itself names n) w (each_itself names es)) c) (sum-table names es)

  pub cast : (signed : Bool) (e : Tree) (c : Shape)
      → stands (sized_as (own_shape names e).width signed) (above (itself names e) node.Sign) c ≡ stands (sized_as (table_shape names e).width signed) (above (itself names e) node.Sign) c
  cast signed e c = ap (λ (x : Shape). stands (sized_as x.width signed) (above (itself names e) node.Sign) c) (own-table names e)

  pub brought_by : (f : Shape → Shape) (e : Tree) → in_context true (sized false names e) (f (own_shape names e)) ≡ becomes names e (f (table_shape names e))
  brought_by f e = ap (λ (x : Shape). becomes names e (f x)) (own-table names e)

-- the widths of a context above 64 are alike
pub placed-cut : (names : Names) (e : Tree) (context : Shape) → placed_answer names e (cut_shape context) ≡ placed_answer names e context
placed-cut names e context =
    let s = sized false names e in
    elim (leb_tells context.width 64) [
      | inl t ↦
          let same : min context.width 65 ≡ context.width = omega arith in
          ap (λ (w : ℕ). in_context true s (sized_as (max (own s).width w) context.signed)) same
      | inr t ↦
          rw (wide true s (placed_shape (own s) (cut_shape context)) (omega arith), wide true s (placed_shape (own s) context) (omega arith)) refl
    ]
