-- What the widths and signs of a typed expression say of its operators.
use Rattle.std.proofs.Common.{◌≡◌, ℕ, ◌^◌, ◌<◌, ◌≤◌, Bool, true, false, ◌&&◌, arith, refl, sym, ap, ◌∙◌, ℤ, pos, negsuc}
use Rattle.std.proofs.lemmas.Nat.{pow_pos, mod_below}
use Rattle.rst_word.specs.declared.ops.UnaryOp.{UnaryOp}
use Rattle.rst_word.specs.declared.ops.UnaryOp.TheVariants as unary
use Rattle.rst_word.specs.declared.ops.BinaryOp.{BinaryOp}
use Rattle.rst_word.specs.declared.ops.BinaryOp.TheVariants as binary
use Rattle.rst_word.specs.Words.{PlainWord, modulo}
use Rattle.rst_word.specs.Unary.{unary_word}
use Rattle.rst_word.specs.Binary.{binary_word, HasWidths, both_signed}
use Rattle.rst_width.specs.declared.typed_expr.Shape.{Shape}
use Rattle.rst_width.specs.Typed.{Typed, typed, shape_of}
use Rattle.rst_width.specs.Values.{Valuation, value}
use Rattle.rst_width.specs.Sizing.{kind_of}
use Rattle.rst_width.specs.Fit.{IsFit, FitsUnary, FitsBinary, FitsDivisor, FitsDivision}
use Rattle.rst_terms.specs.Operators.{is_division}
use Rattle.rst_terms.specs.Spelling.{HasSign}

pub value_width : (v : Valuation) (e : Typed) → (value v e).width ≡ (shape_of e).width
value_width v (typed shape node) = refl

pub value_sign : (v : Valuation) (e : Typed) → (value v e).signed ≡ (shape_of e).signed
value_sign v (typed shape node) = refl

pub some_bits : (e : Typed) → IsFit e → 0 < (shape_of e).width
some_bits (typed shape node) f = f.0.some_bits

pub at_most_64 : (e : Typed) → IsFit e → (shape_of e).width ≤ 64
at_most_64 (typed shape node) f = f.0.at_most_64

shape_width : (a b : Shape) → a ≡ b → a.width ≡ b.width
shape_width a b h = ap (λ (s : Shape). s.width) h

shape_sign : (a b : Shape) → a ≡ b → a.signed ≡ b.signed
shape_sign a b h = ap (λ (s : Shape). s.signed) h

pub unary_width : (op : UnaryOp) (shape s : Shape) (w : PlainWord) → FitsUnary op shape s → w.width ≡ s.width → (unary_word op w).width ≡ shape.width
unary_width unary.Plus shape s w f h = h ∙ shape_width s shape f
unary_width unary.Minus shape s w f h = h ∙ shape_width s shape f
unary_width unary.Invert shape s w f h = h ∙ shape_width s shape f
unary_width unary.Not shape s w f h = sym f
unary_width unary.And shape s w f h = sym f
unary_width unary.Nand shape s w f h = sym f
unary_width unary.Or shape s w f h = sym f
unary_width unary.Nor shape s w f h = sym f
unary_width unary.Xor shape s w f h = sym f
unary_width unary.Xnor shape s w f h = sym f

-- what an operator with two operands takes and gives
pub record Fits (op : BinaryOp) (shape s t : Shape) (a b : PlainWord) : Type 0 where
  pub widths : HasWidths op a b
  pub sign : HasSign op s.signed a b
  pub width : is_division op ≡ false → (binary_word op a b).width ≡ shape.width

both_same : (x y z : Bool) → y ≡ x → z ≡ x → x ≡ (y && z)
both_same true true true h k = refl
both_same false false z h k = refl
both_same true true false h k = cc
both_same true false z h k = cc
both_same false true z h k = cc

module _ (shape s t : Shape) (a b : PlainWord) (aw : a.width ≡ s.width) (bw : b.width ≡ t.width) (sa : a.signed ≡ s.signed) (sb : b.signed ≡ t.signed) where
  same_widths : s ≡ shape → t ≡ shape → a.width ≡ b.width
  same_widths h k = aw ∙ (shape_width s shape h ∙ sym (bw ∙ shape_width t shape k))

  compared : s ≡ t → a.width ≡ b.width
  compared h = aw ∙ (shape_width s t h ∙ sym bw)

  signs : s ≡ t → s.signed ≡ both_signed a b
  signs h = both_same s.signed a.signed b.signed sa (sb ∙ sym (shape_sign s t h))

  pub operands_fit : (op : BinaryOp) → FitsBinary (kind_of op) shape s t → Fits op shape s t a b
  operands_fit binary.Mul f = record { widths = same_widths f.0 f.1; sign = tt; width = λ d. aw ∙ shape_width s shape f.0 }
  operands_fit binary.Div f = record { widths = same_widths f.0 f.1; sign = tt; width = λ d. aw ∙ shape_width s shape f.0 }
  operands_fit binary.Rem f = record { widths = same_widths f.0 f.1; sign = tt; width = λ d. aw ∙ shape_width s shape f.0 }
  operands_fit binary.Add f = record { widths = same_widths f.0 f.1; sign = tt; width = λ d. aw ∙ shape_width s shape f.0 }
  operands_fit binary.Sub f = record { widths = same_widths f.0 f.1; sign = tt; width = λ d. aw ∙ shape_width s shape f.0 }
  operands_fit binary.And f = record { widths = same_widths f.0 f.1; sign = tt; width = λ d. aw ∙ shape_width s shape f.0 }
  operands_fit binary.Xor f = record { widths = same_widths f.0 f.1; sign = tt; width = λ d. aw ∙ shape_width s shape f.0 }
  operands_fit binary.Xnor f = record { widths = same_widths f.0 f.1; sign = tt; width = λ d. aw ∙ shape_width s shape f.0 }
  operands_fit binary.Or f = record { widths = same_widths f.0 f.1; sign = tt; width = λ d. aw ∙ shape_width s shape f.0 }
  operands_fit binary.Shl f = record { widths = tt; sign = tt; width = λ d. aw ∙ shape_width s shape f }
  operands_fit binary.Shr f = record { widths = tt; sign = tt; width = λ d. aw ∙ shape_width s shape f }
  operands_fit binary.ArithShl f = record { widths = tt; sign = tt; width = λ d. aw ∙ shape_width s shape f }
  operands_fit binary.ArithShr f = record { widths = tt; sign = sym sa; width = λ d. aw ∙ shape_width s shape f }
  operands_fit binary.Lt f = record { widths = compared f.1; sign = signs f.1; width = λ d. sym f.0 }
  operands_fit binary.Le f = record { widths = compared f.1; sign = signs f.1; width = λ d. sym f.0 }
  operands_fit binary.Gt f = record { widths = compared f.1; sign = signs f.1; width = λ d. sym f.0 }
  operands_fit binary.Ge f = record { widths = compared f.1; sign = signs f.1; width = λ d. sym f.0 }
  operands_fit binary.Eq f = record { widths = compared f.1; sign = tt; width = λ d. sym f.0 }
  operands_fit binary.Ne f = record { widths = compared f.1; sign = tt; width = λ d. sym f.0 }
  operands_fit binary.LogicAnd f = record { widths = tt; sign = tt; width = λ d. sym f }
  operands_fit binary.LogicOr f = record { widths = tt; sign = tt; width = λ d. sym f }

-- a quotient or a remainder fits its width
modulo_below : (w : ℕ) (z : ℤ) → modulo w z < 2 ^ w
modulo_below w (pos n) = mod_below n (2 ^ w) (pow_pos w)
modulo_below w (negsuc n) = let p = pow_pos w in omega (arith, p)

pub record Divides (shape s : Shape) (op : BinaryOp) (a b : Typed) : Type 0 where
  pub same : s ≡ shape
  pub constant : FitsDivision a b

pub division : (op : BinaryOp) (shape s t : Shape) (a b : Typed) → is_division op ≡ true → FitsBinary (kind_of op) shape s t → FitsDivisor op a b → Divides shape s op a b
division binary.Div shape s t a b d f h = record { same = f.0; constant = h }
division binary.Rem shape s t a b d f h = record { same = f.0; constant = h }
division binary.Mul shape s t a b d f h = cc
division binary.Add shape s t a b d f h = cc
division binary.Sub shape s t a b d f h = cc
division binary.And shape s t a b d f h = cc
division binary.Xor shape s t a b d f h = cc
division binary.Xnor shape s t a b d f h = cc
division binary.Or shape s t a b d f h = cc
division binary.Shl shape s t a b d f h = cc
division binary.Shr shape s t a b d f h = cc
division binary.ArithShl shape s t a b d f h = cc
division binary.ArithShr shape s t a b d f h = cc
division binary.Lt shape s t a b d f h = cc
division binary.Le shape s t a b d f h = cc
division binary.Gt shape s t a b d f h = cc
division binary.Ge shape s t a b d f h = cc
division binary.Eq shape s t a b d f h = cc
division binary.Ne shape s t a b d f h = cc
division binary.LogicAnd shape s t a b d f h = cc
division binary.LogicOr shape s t a b d f h = cc

pub quotient_below : (op : BinaryOp) (a b : PlainWord) → is_division op ≡ true → (binary_word op a b).value < 2 ^ a.width
quotient_below binary.Div a b d = modulo_below a.width _
quotient_below binary.Rem a b d = modulo_below a.width _
quotient_below binary.Mul a b d = cc
quotient_below binary.Add a b d = cc
quotient_below binary.Sub a b d = cc
quotient_below binary.And a b d = cc
quotient_below binary.Xor a b d = cc
quotient_below binary.Xnor a b d = cc
quotient_below binary.Or a b d = cc
quotient_below binary.Shl a b d = cc
quotient_below binary.Shr a b d = cc
quotient_below binary.ArithShl a b d = cc
quotient_below binary.ArithShr a b d = cc
quotient_below binary.Lt a b d = cc
quotient_below binary.Le a b d = cc
quotient_below binary.Gt a b d = cc
quotient_below binary.Ge a b d = cc
quotient_below binary.Eq a b d = cc
quotient_below binary.Ne a b d = cc
quotient_below binary.LogicAnd a b d = cc
quotient_below binary.LogicOr a b d = cc
