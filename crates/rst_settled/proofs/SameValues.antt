-- The value of an expression rests on the bits that it reads alone.
use Rattle.std.proofs.Common.{◌≡◌, ◌∙◌, ℕ, ◌-◌, ◌/◌, ◌%◌, ◌^◌, ◌<◌, true, false, List, [], ◌∷◌, ◌++◌, cond, arith, refl, sym, ap, inl, inr}
use Rattle.std.proofs.lemmas.Bool.{or_left, or_right, cases_lt}
use Rattle.std.proofs.lemmas.List.Folds.{list_any-append}
use Rattle.rst_word.specs.Words.{PlainWord, joined, extended}
use Rattle.rst_word.specs.Unary.{unary_word, is_true}
use Rattle.rst_word.specs.Binary.{binary_word}
use Rattle.rst_width.specs.declared.typed_expr.Shape.{Shape}
use Rattle.rst_width.specs.Typed.{Typed, Node, TypedList, typed, end, more}
use Rattle.rst_width.specs.Typed as node
use Rattle.rst_width.specs.Values.{Valuation, value, number_at, joined_parts, joined_behind, repeated, word_at}
use Rattle.rst_net.specs.declared.signal.Slice.{Slice}
use Rattle.rst_cycle.specs.Drivers.{slice_has, target_has}
use Rattle.rst_blocks.specs.Reads.{whole, reads_of, node_reads, list_reads}
use Rattle.rst_settled.proofs.Bits.{same_number, same_part, bit_past}
use Rattle.rst_settled.proofs.Targets.{bit, slice_from}

-- two valuations have the same bits, below 64, in these slices
pub record Alike (u v : Valuation) (slices : List Slice) : Type 0 where
  pub same : (i place : ℕ) → place < 64 → target_has slices i place ≡ true → bit u i place ≡ bit v i place

pub alike_left : (u v : Valuation) (xs ys : List Slice) → Alike u v (xs ++ ys) → Alike u v xs
alike_left u v xs ys h = record {
  same = λ i place l e. h.same i place l
      (list_any-append (slice_has i place) xs ys ∙ or_left (target_has xs i place) (target_has ys i place) e);
}

pub alike_right : (u v : Valuation) (xs ys : List Slice) → Alike u v (xs ++ ys) → Alike u v ys
alike_right u v xs ys h = record {
  same = λ i place l e. h.same i place l
      (list_any-append (slice_has i place) xs ys ∙ or_right (target_has xs i place) (target_has ys i place) e);
}

module _ (u v : Valuation) (below_u : (i : ℕ) → u i < 2 ^ 64) (below_v : (i : ℕ) → v i < 2 ^ 64) where
  -- a signal that is read whole
  same_signal : (i : ℕ) (slices : List Slice) → Alike u v (whole i ∷ slices) → u i ≡ v i
  same_signal i slices h =
      same_number 64 (u i) (v i) (below_u i) (below_v i)
      (λ p l. h.same i p l (or_left (slice_has i p (whole i)) (target_has slices i p) (slice_from (whole i) i p refl (omega arith) (omega (arith, l)))))

  same_slice : (i low width : ℕ) → Alike u v (record { signal = i; low = low; width = width } ∷ []) → u i / 2 ^ low % 2 ^ width ≡ v i / 2 ^ low % 2 ^ width
  same_slice i low width h =
      same_part low width (u i) (v i)
      (λ p from below. elim (cases_lt p 64) [
        | inl l ↦ h.same i p l (or_left (slice_has i p (record { signal = i; low = low; width = width })) false
            (slice_from (record { signal = i; low = low; width = width }) i p refl from below))
        | inr l ↦ bit_past (u i) 64 p (below_u i) l ∙ sym (bit_past (v i) 64 p (below_v i) l)
      ])

  mutual
    pub same_value : (e : Typed) → Alike u v (reads_of e) → value u e ≡ value v e
    same_value (typed shape n) h = ap (word_at shape) (same_at shape n h)

    same_at : (shape : Shape) (n : Node) → Alike u v (node_reads n) → number_at u shape n ≡ number_at v shape n
    same_at shape (node.Word w) h = refl
    same_at shape (node.Signal i) h = same_signal i [] h
    same_at shape (node.Slice i low width) h = same_slice i low width h
    same_at shape (node.Pick i e) h =
        let one = same_signal i (reads_of e) h in
        let index = same_value e (alike_right u v (whole i ∷ []) (reads_of e) h) in
        λ j. one j / 2 ^ (index j).value % 2
    same_at shape (node.Unary op e) h = ap (λ (w : PlainWord). (unary_word op w).value) (same_value e h)
    same_at shape (node.Binary op a b) h =
        let one = same_value a (alike_left u v (reads_of a) (reads_of b) h) in
        let other = same_value b (alike_right u v (reads_of a) (reads_of b) h) in
        λ j. (binary_word op (one j) (other j)).value
    same_at shape (node.Choose c a b) h =
        let test = same_value c (alike_left u v (reads_of c) (reads_of a ++ reads_of b) h) in
        let rest = alike_right u v (reads_of c) (reads_of a ++ reads_of b) h in
        let one = same_value a (alike_left u v (reads_of a) (reads_of b) rest) in
        let other = same_value b (alike_right u v (reads_of a) (reads_of b) rest) in
        λ j. cond (is_true (test j)) (one j).value (other j).value
    same_at shape (node.Join es) h = ap (λ (w : PlainWord). w.value) (same_parts es h)
    same_at shape (node.Repeat count es) h = ap (λ (w : PlainWord). (repeated (count - 1) w w).value) (same_parts es h)
    same_at shape (node.Extend e) h = ap (λ (w : PlainWord). (extended shape.width shape.signed w).value) (same_value e h)
    same_at shape (node.Sign e) h = ap (λ (w : PlainWord). w.value) (same_value e h)

    same_parts : (es : TypedList) → Alike u v (list_reads es) → joined_parts u es ≡ joined_parts v es
    same_parts end h = refl
    same_parts (more x xs) h =
        ap (λ w. joined_behind u w xs) (same_value x (alike_left u v (reads_of x) (list_reads xs) h))
        ∙ same_behind (value v x) xs (alike_right u v (reads_of x) (list_reads xs) h)

    same_behind : (front : PlainWord) (es : TypedList) → Alike u v (list_reads es) → joined_behind u front es ≡ joined_behind v front es
    same_behind front end h = refl
    same_behind front (more x xs) h =
        ap (λ w. joined_behind u (joined front w) xs) (same_value x (alike_left u v (reads_of x) (list_reads xs) h))
        ∙ same_behind (joined front (value v x)) xs (alike_right u v (reads_of x) (list_reads xs) h)
