-- An expression that names no signal has one value.
use Rattle.std.proofs.Common.{◌≡◌, ◌∙◌, Bool, true, false, ◌||◌, ◌-◌, refl, ap, cond}
use Rattle.rst_word.specs.Words.{PlainWord, joined, extended}
use Rattle.rst_word.specs.Unary.{unary_word, is_true}
use Rattle.rst_word.specs.Binary.{binary_word}
use Rattle.rst_width.specs.declared.typed_expr.Shape.{Shape}
use Rattle.rst_width.specs.Typed.{Typed, Node, TypedList, typed, end, more, names_signal, node_names, list_names}
use Rattle.rst_width.specs.Typed as node
use Rattle.rst_width.specs.Values.{Valuation, value, number_at, joined_parts, joined_behind, repeated, word_at}

pub or_false : (a b : Bool) → (a || b) ≡ false → (a ≡ false) × (b ≡ false)
or_false true b h = cc
or_false false b h = (refl, h)

mutual
  pub same_value : (u v : Valuation) (e : Typed) → names_signal e ≡ false → value u e ≡ value v e
  same_value u v (typed shape n) h = ap (word_at shape) (same_number u v shape n h)

  same_number : (u v : Valuation) (shape : Shape) (n : Node) → node_names n ≡ false → number_at u shape n ≡ number_at v shape n
  same_number u v shape (node.Word w) h = refl
  same_number u v shape (node.Signal i) h = cc
  same_number u v shape (node.Slice i low width) h = cc
  same_number u v shape (node.Pick i e) h = cc
  same_number u v shape (node.Unary op e) h = ap (λ (w : PlainWord). (unary_word op w).value) (same_value u v e h)
  same_number u v shape (node.Binary op a b) h =
      let both = or_false (names_signal a) (names_signal b) h in
      ap (λ (w : PlainWord). (binary_word op w (value u b)).value) (same_value u v a both.0)
      ∙ ap (λ (w : PlainWord). (binary_word op (value v a) w).value) (same_value u v b both.1)
  same_number u v shape (node.Choose c a b) h =
      let three = or_false (names_signal c) (names_signal a || names_signal b) h in
      let both = or_false (names_signal a) (names_signal b) three.1 in
      ap (λ (w : PlainWord). cond (is_true w) (value u a).value (value u b).value) (same_value u v c three.0)
      ∙ ap (λ (w : PlainWord). cond (is_true (value v c)) w.value (value u b).value) (same_value u v a both.0)
      ∙ ap (λ (w : PlainWord). cond (is_true (value v c)) (value v a).value w.value) (same_value u v b both.1)
  same_number u v shape (node.Join es) h = ap (λ (w : PlainWord). w.value) (same_parts u v es h)
  same_number u v shape (node.Repeat count es) h = ap (λ (w : PlainWord). (repeated (count - 1) w w).value) (same_parts u v es h)
  same_number u v shape (node.Extend e) h = ap (λ (w : PlainWord). (extended shape.width shape.signed w).value) (same_value u v e h)
  same_number u v shape (node.Sign e) h = ap (λ (w : PlainWord). w.value) (same_value u v e h)

  same_parts : (u v : Valuation) (es : TypedList) → list_names es ≡ false → joined_parts u es ≡ joined_parts v es
  same_parts u v end h = refl
  same_parts u v (more x xs) h =
      let both = or_false (names_signal x) (list_names xs) h in
      ap (λ w. joined_behind u w xs) (same_value u v x both.0) ∙ same_behind u v (value v x) xs both.1

  same_behind : (u v : Valuation) (front : PlainWord) (es : TypedList) → list_names es ≡ false → joined_behind u front es ≡ joined_behind v front es
  same_behind u v front end h = refl
  same_behind u v front (more x xs) h =
      let both = or_false (names_signal x) (list_names xs) h in
      ap (λ w. joined_behind u (joined front w) xs) (same_value u v x both.0) ∙ same_behind u v (joined front (value v x)) xs both.1
