-- The value of a typed expression is a word.
use Rattle.std.proofs.Common.{◌≡◌, ◌∙◌, ℕ, zero, suc, ◌+◌, ◌-◌, ◌*◌, ◌/◌, ◌%◌, ◌^◌, ◌<◌, ◌≤◌, Bool, true, false, cond, refl, ap, sym, subst, arith}
use Rattle.std.proofs.lemmas.Nat.{pow_pos}
use Rattle.std.proofs.Math.Nat.{mod-lt, suc-mul}
use Rattle.rst_word.specs.declared.ops.UnaryOp.{UnaryOp}
use Rattle.rst_word.specs.declared.ops.UnaryOp.TheVariants as unary
use Rattle.rst_word.specs.declared.ops.BinaryOp.{BinaryOp}
use Rattle.rst_word.specs.declared.ops.BinaryOp.TheVariants as binary
use Rattle.rst_word.specs.Words.{PlainWord, IsWord, joined}
use Rattle.rst_word.specs.Unary.{unary_word, is_true}
use Rattle.rst_word.specs.Binary.{binary_word, HasWidths}
use Rattle.rst_word.proofs.Results.{unary_is_word, binary_is_word, joined_is_word, extended_is_word}
use Rattle.rst_width.specs.declared.typed_expr.Shape.{Shape}
use Rattle.rst_width.specs.Typed.{Typed, Node, TypedList, typed, end, more, shape_of}
use Rattle.rst_width.specs.Typed as node
use Rattle.rst_width.specs.Sizing.{kind_of}
use Rattle.rst_width.specs.Values.{Valuation, value, number_at, joined_parts, joined_behind, repeated}
use Rattle.rst_width.specs.Fit.{IsShape, IsFit, IsFitNode, AreFit, FitsUnary, FitsBinary, widths}
use Rattle.rst_width.specs.Reads.{ReadsInside, NodeReadsInside, AllReadInside}

-- a number of another width that is the same
same_bound : (n v w : ℕ) → v ≡ w → n < 2 ^ v → n < 2 ^ w
same_bound n v w e h = subst (λ (x : ℕ). n < 2 ^ x) e h

-- the width of what an operator gives
unary_width : (op : UnaryOp) (shape s : Shape) (a : PlainWord) → a.width ≡ s.width → FitsUnary op shape s → (unary_word op a).width ≡ shape.width
unary_width unary.Plus shape s a e h = e ∙ ap (λ (x : Shape). x.width) h
unary_width unary.Minus shape s a e h = e ∙ ap (λ (x : Shape). x.width) h
unary_width unary.Invert shape s a e h = e ∙ ap (λ (x : Shape). x.width) h
unary_width unary.Not shape s a e h = sym h
unary_width unary.And shape s a e h = sym h
unary_width unary.Nand shape s a e h = sym h
unary_width unary.Or shape s a e h = sym h
unary_width unary.Nor shape s a e h = sym h
unary_width unary.Xor shape s a e h = sym h
unary_width unary.Xnor shape s a e h = sym h

-- the operands have the widths that the operator asks for, and what it gives has the width of the place
pub record OperatorFits (op : BinaryOp) (shape : Shape) (a b : PlainWord) : Type 0 where
  pub operands : HasWidths op a b
  pub result : (binary_word op a b).width ≡ shape.width

in_context_fits : (shape s t : Shape) (a b : PlainWord) → a.width ≡ s.width → b.width ≡ t.width → (s ≡ shape) × (t ≡ shape) → (a.width ≡ b.width) × (a.width ≡ shape.width)
in_context_fits shape s t a b e f h =
    let left = e ∙ ap (λ (x : Shape). x.width) h.0 in
    let right = f ∙ ap (λ (x : Shape). x.width) h.1 in
    (left ∙ sym right, left)

compared_fits : (s t : Shape) (a b : PlainWord) → a.width ≡ s.width → b.width ≡ t.width → s ≡ t → a.width ≡ b.width
compared_fits s t a b e f h = e ∙ ap (λ (x : Shape). x.width) h ∙ sym f

operator_fits : (op : BinaryOp) (shape s t : Shape) (a b : PlainWord) → a.width ≡ s.width → b.width ≡ t.width → FitsBinary (kind_of op) shape s t → OperatorFits op shape a b
operator_fits binary.Mul shape s t a b e f h = let both = in_context_fits shape s t a b e f h in record { operands = both.0; result = both.1 }
operator_fits binary.Div shape s t a b e f h = let both = in_context_fits shape s t a b e f h in record { operands = both.0; result = both.1 }
operator_fits binary.Rem shape s t a b e f h = let both = in_context_fits shape s t a b e f h in record { operands = both.0; result = both.1 }
operator_fits binary.Add shape s t a b e f h = let both = in_context_fits shape s t a b e f h in record { operands = both.0; result = both.1 }
operator_fits binary.Sub shape s t a b e f h = let both = in_context_fits shape s t a b e f h in record { operands = both.0; result = both.1 }
operator_fits binary.And shape s t a b e f h = let both = in_context_fits shape s t a b e f h in record { operands = both.0; result = both.1 }
operator_fits binary.Xor shape s t a b e f h = let both = in_context_fits shape s t a b e f h in record { operands = both.0; result = both.1 }
operator_fits binary.Xnor shape s t a b e f h = let both = in_context_fits shape s t a b e f h in record { operands = both.0; result = both.1 }
operator_fits binary.Or shape s t a b e f h = let both = in_context_fits shape s t a b e f h in record { operands = both.0; result = both.1 }
operator_fits binary.Shl shape s t a b e f h = record { operands = tt; result = e ∙ ap (λ (x : Shape). x.width) h }
operator_fits binary.Shr shape s t a b e f h = record { operands = tt; result = e ∙ ap (λ (x : Shape). x.width) h }
operator_fits binary.ArithShl shape s t a b e f h = record { operands = tt; result = e ∙ ap (λ (x : Shape). x.width) h }
operator_fits binary.ArithShr shape s t a b e f h = record { operands = tt; result = e ∙ ap (λ (x : Shape). x.width) h }
operator_fits binary.Lt shape s t a b e f h = record { operands = compared_fits s t a b e f h.1; result = sym h.0 }
operator_fits binary.Le shape s t a b e f h = record { operands = compared_fits s t a b e f h.1; result = sym h.0 }
operator_fits binary.Gt shape s t a b e f h = record { operands = compared_fits s t a b e f h.1; result = sym h.0 }
operator_fits binary.Ge shape s t a b e f h = record { operands = compared_fits s t a b e f h.1; result = sym h.0 }
operator_fits binary.Eq shape s t a b e f h = record { operands = compared_fits s t a b e f h.1; result = sym h.0 }
operator_fits binary.Ne shape s t a b e f h = record { operands = compared_fits s t a b e f h.1; result = sym h.0 }
operator_fits binary.LogicAnd shape s t a b e f h = record { operands = tt; result = sym h }
operator_fits binary.LogicOr shape s t a b e f h = record { operands = tt; result = sym h }

-- a word of this width
pub record IsWordOf (width : ℕ) (w : PlainWord) : Type 0 where
  pub word : IsWord w
  pub at : w.width ≡ width

repeated_word : (times : ℕ) (front w : PlainWord) → IsWord front → IsWord w → front.width + times * w.width ≤ 64 → IsWordOf (front.width + times * w.width) (repeated times front w)
repeated_word zero front w h k small = record { word = h; at = omega arith }
repeated_word (suc times) front w h k small =
    let room : front.width + w.width ≤ 64 = omega arith in
    let rest = repeated_word times (joined front w) w (joined_is_word front w h k room) k (omega arith) in
    record { word = rest.word; at = omega (arith, rest.at) }

value_width : (signals : Valuation) (e : Typed) → (value signals e).width ≡ (shape_of e).width
value_width signals (typed shape n) = refl

chosen : (c : Bool) (x y bound : ℕ) → x < bound → y < bound → cond c x y < bound
chosen true x y bound h k = h
chosen false x y bound h k = k

-- the widths of the parts of a repetition
part_widths : (count width total : ℕ) → 0 < count → count * width ≡ total → 0 < total → total ≤ 64 → (0 < width) × (width ≤ 64)
part_widths count width total some is positive small = (grind arith, grind arith)

one_more : (count width : ℕ) → 0 < count → width + (count - 1) * width ≡ count * width
one_more zero width some = absurd (omega arith)
one_more (suc k) width some =
    let less : suc k - 1 ≡ k = omega arith in
    let front : width + (suc k - 1) * width ≡ width + k * width = ap (λ (n : ℕ). width + n * width) less in
    let more_by_one : suc k * width ≡ k * width + width = suc-mul k width in
    let back : width + k * width ≡ suc k * width = omega (arith, more_by_one) in
    front ∙ back

module _ (bound : ℕ → ℕ) (signals : Valuation) (right : (i : ℕ) → signals i < 2 ^ bound i) where
  mutual
    pub value-word : (e : Typed) → IsFit e → ReadsInside bound e → IsWord (value signals e)
    value-word (typed shape n) h reads = record {
      some_bits = h.0.some_bits;
      at_most_64 = h.0.at_most_64;
      fits = number-fits shape n h.0 h.1 reads;
    }

    number-fits : (shape : Shape) (n : Node) → IsShape shape → IsFitNode shape n → NodeReadsInside bound shape n → number_at signals shape n < 2 ^ shape.width
    number-fits shape (node.Word w) s h reads = same_bound w.value w.width shape.width h.1 h.0.fits
    number-fits shape (node.Signal i) s h reads = same_bound (signals i) (bound i) shape.width reads (right i)
    number-fits shape (node.Slice i low width) s h reads =
        same_bound (signals i / 2 ^ low % 2 ^ width) width shape.width h (mod-lt (signals i / 2 ^ low) (pow_pos width))
    number-fits shape (node.Pick i e) s h reads =
        let bit : signals i / 2 ^ (value signals e).value % 2 < 2 ^ 1 = mod-lt (signals i / 2 ^ (value signals e).value) (omega arith) in
        same_bound _ 1 shape.width (sym h.0) bit
    number-fits shape (node.Unary op e) s h reads =
        let a = value signals e in
        same_bound (unary_word op a).value (unary_word op a).width shape.width (unary_width op shape (shape_of e) a (value_width signals e) h.0)
        (unary_is_word op a (value-word e h.1 reads)).fits
    number-fits shape (node.Binary op a b) s h reads =
        let x = value signals a in
        let y = value signals b in
        let widths = operator_fits op shape (shape_of a) (shape_of b) x y (value_width signals a) (value_width signals b) h.0 in
        same_bound (binary_word op x y).value (binary_word op x y).width shape.width widths.result
        (binary_is_word op x y (value-word a h.2 reads.0) (value-word b h.3 reads.1) widths.operands).fits
    number-fits shape (node.Choose c a b) s h reads =
        chosen (is_true (value signals c)) (value signals a).value (value signals b).value (2 ^ shape.width)
        (same_bound _ (value signals a).width shape.width (value_width signals a ∙ ap (λ (x : Shape). x.width) h.0) (value-word a h.3 reads.1).fits)
        (same_bound _ (value signals b).width shape.width (value_width signals b ∙ ap (λ (x : Shape). x.width) h.1) (value-word b h.4 reads.2).fits)
    number-fits shape (node.Join es) s h reads =
        let all = parts-word es (subst (λ (w : ℕ). 0 < w) (sym h.0) s.some_bits) (subst (λ (w : ℕ). w ≤ 64) (sym h.0) s.at_most_64) h.1 reads in
        same_bound _ (joined_parts signals es).width shape.width (all.at ∙ h.0) all.word.fits
    number-fits shape (node.Repeat count es) s h reads =
        let total : count * widths es ≡ shape.width = h.1 in
        let part = part_widths count (widths es) shape.width h.0 total s.some_bits s.at_most_64 in
        let all = parts-word es part.0 part.1 h.2 reads in
        let w = joined_parts signals es in
        let product : w.width + (count - 1) * w.width ≡ shape.width = rw all.at (one_more count (widths es) h.0 ∙ total) in
        let many = repeated_word (count - 1) w w all.word all.word (subst (λ (x : ℕ). x ≤ 64) (sym product) s.at_most_64) in
        same_bound _ (repeated (count - 1) w w).width shape.width (many.at ∙ product) many.word.fits
    number-fits shape (node.Extend e) s h reads =
        let a = value signals e in
        (extended_is_word shape.width shape.signed a (value-word e h.1 reads) (omega (arith, value_width signals e, h.0)) s.at_most_64).fits
    number-fits shape (node.Sign e) s h reads =
        same_bound (value signals e).value (value signals e).width shape.width (value_width signals e ∙ h.0) (value-word e h.1 reads).fits

    parts-word : (es : TypedList) → 0 < widths es → widths es ≤ 64 → AreFit es → AllReadInside bound es → IsWordOf (widths es) (joined_parts signals es)
    parts-word end some small h reads = absurd (omega arith)
    parts-word (more x xs) some small h reads =
        let first = value-word x h.0 reads.0 in
        let same = value_width signals x in
        let behind = behind-word (value signals x) xs first (omega (arith, same)) h.1 reads.1 in
        record { word = behind.word; at = behind.at ∙ ap (λ (w : ℕ). w + widths xs) same }

    behind-word : (front : PlainWord) (es : TypedList) → IsWord front → front.width + widths es ≤ 64 → AreFit es → AllReadInside bound es → IsWordOf (front.width + widths es) (joined_behind signals front es)
    behind-word front end h small fits reads = record { word = h; at = omega arith }
    behind-word front (more x xs) h small fits reads =
        let next = value-word x fits.0 reads.0 in
        let same = value_width signals x in
        let room : front.width + (value signals x).width ≤ 64 = omega (arith, same) in
        let rest = behind-word (joined front (value signals x)) xs (joined_is_word front (value signals x) h next room) (omega (arith, same)) fits.1 reads.1 in
        record { word = rest.word; at = omega (arith, rest.at, same) }
