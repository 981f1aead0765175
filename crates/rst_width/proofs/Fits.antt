-- What is typed fits together.
use Rattle.std.proofs.Common.{◌≡◌, ℕ, suc, ◌<◌, ◌≤◌, Bool, true, false, cond, ◌||◌, ◌&&◌, Ok, Err, refl, ap, sym, subst, arith, nat_eq, Result, inl, inr}
use Rattle.std.specs.Prelude.{IfOk}
use Rattle.std.proofs.lemmas.Bool.Decides.{leb_tells, eqb_tells}
use Rattle.rst_word.specs.declared.ops.UnaryOp.{UnaryOp}
use Rattle.rst_word.specs.declared.ops.UnaryOp.TheVariants as unary
use Rattle.rst_word.specs.declared.ops.BinaryOp.{BinaryOp}
use Rattle.rst_word.specs.declared.ops.BinaryOp.TheVariants as binary
use Rattle.rst_width.specs.declared.typed_expr.Shape.{Shape}
use Rattle.rst_width.specs.declared.typed_expr.WidthFault.{WidthFault}
use Rattle.rst_width.specs.declared.typed_expr.WidthFault.TheVariants.{NotConstant, ZeroDivisor}
use Rattle.rst_width.specs.Typed.{Typed, Node, typed, shape_of, sized_as, names_signal}
use Rattle.rst_width.specs.Typed as node
use Rattle.rst_width.specs.Values.{constant_word}
use Rattle.rst_width.specs.Sized.{Answer, Sized, Leaf, Unary, Binary, Shift, Choose, Earlier, Own, Good, own, in_context, by_itself, brought, operated, divided, ◌>>=◌}
use Rattle.rst_width.specs.Sizing.{WorksInContext, kind_of, Kind, Arithmetic, Moving}
use Rattle.rst_width.specs.Fit.{IsShape, IsFit, IsFitNode, IsFitAt, FitsIn, FitsBinary, FitsDivisor, FitsDivision}
use Rattle.rst_width.specs.Cut.{IsFitSized}

shape_fits : (w : ℕ) (s : Bool) → 0 < w → w ≤ 64 → IsShape (sized_as w s)
shape_fits w s h k = record { some_bits = h; at_most_64 = k }

extended_fits : (shape : Shape) (n : Node) (context : Shape) → 0 < shape.width → IsFitNode shape n → shape.width < context.width → context.width ≤ 64 → IsFitAt context (typed context (node.Extend (typed shape n)))
extended_fits shape n context some fits wider small = record {
  fit = (record { some_bits = omega arith; at_most_64 = small }, (wider, (record { some_bits = some; at_most_64 = omega arith }, fits)));
  at = refl;
}

kept_fits : (shape : Shape) (n : Node) (context : Shape) → 0 < shape.width → shape.width ≡ context.width → ((signed : Bool) → IsFitNode (sized_as shape.width signed) n) → context.width ≤ 64 → IsFitAt context (typed context n)
kept_fits shape n context some same fits small = record {
  fit = (record { some_bits = omega arith; at_most_64 = small }, subst (λ (w : ℕ). IsFitNode (sized_as w context.signed) n) same (fits context.signed));
  at = refl;
}

brought_fits : (shape : Shape) (n : Node) (context : Shape) → 0 < shape.width → ((signed : Bool) → IsFitNode (sized_as shape.width signed) n) → shape.width ≤ context.width → context.width ≤ 64 → IsFitAt context (brought shape n context)
brought_fits shape n context some fits wide small =
    elim (leb_tells (suc shape.width) context.width) [
      | inl t ↦ subst (IsFitAt context) (ap (λ b. cond b (typed context (node.Extend (typed shape n))) (typed context n)) (sym t.0)) (extended_fits shape n context some (fits shape.signed) t.1 small)
      | inr t ↦ subst (IsFitAt context) (ap (λ b. cond b (typed context (node.Extend (typed shape n))) (typed context n)) (sym t.0)) (kept_fits shape n context some (omega arith) fits small)
    ]

-- what holds behind a step that may fail
pub bind : {A B : Type 0} (P : A → Type 0) (Q : B → Type 0) (r : Result A WidthFault) (f : A → Result B WidthFault) → IfOk r P → ((x : A) → P x → IfOk (f x) Q) → IfOk (r >>= f) Q
bind P Q (Ok x) f h k = k x h
bind P Q (Err e) f h k = tt

shape_is_fit : (context : Shape) (e : Typed) → IsFitAt context e → IsShape context
shape_is_fit context (typed shape n) h = subst IsShape h.at h.fit.0

pub fit_width : (context : Shape) (e : Typed) → IsFitAt context e → 0 < context.width
fit_width context e h = (shape_is_fit context e h).some_bits

unary_fits : (op : UnaryOp) (context : Shape) (x : Typed) → WorksInContext op → IsFitAt context x → IsFitAt context (typed context (node.Unary op x))
unary_fits unary.Plus context x w h = record { fit = (shape_is_fit context x h, (h.at, h.fit)); at = refl }
unary_fits unary.Minus context x w h = record { fit = (shape_is_fit context x h, (h.at, h.fit)); at = refl }
unary_fits unary.Invert context x w h = record { fit = (shape_is_fit context x h, (h.at, h.fit)); at = refl }
unary_fits _ context x w h = absurd w

-- two operands of the context, by an operator that is no division
plain_fits : (op : BinaryOp) (context : Shape) (x y : Typed) → kind_of op ≡ Arithmetic → FitsDivisor op x y → IsFitAt context x → IsFitAt context y → IsFitAt context (typed context (node.Binary op x y))
plain_fits op context x y kind divisor h k = record {
  fit = (shape_is_fit context x h, (subst (λ (z : Kind). FitsBinary z context (shape_of x) (shape_of y)) (sym kind) (h.at, k.at), divisor, h.fit, k.fit));
  at = refl;
}

or_false : (a b : Bool) → (a || b) ≡ false → (a ≡ false) × (b ≡ false)
or_false true b h = cc
or_false false b h = (refl, h)

division_fits : (op : BinaryOp) (context : Shape) (x y : Typed) → kind_of op ≡ Arithmetic → (FitsDivision x y → FitsDivisor op x y) → IsFitAt context x → IsFitAt context y → FitsIn context (divided true context op x y)
division_fits op context x y kind as_divisor h k = go (names_signal x || names_signal y) refl
  where
    go : (b : Bool) → b ≡ (names_signal x || names_signal y) → FitsIn context (cond b (Err NotConstant) (cond (true && nat_eq (constant_word y).value 0) (Err ZeroDivisor) (Ok (typed context (node.Binary op x y)))))
    go true e = tt
    go false e =
        let names = or_false (names_signal x) (names_signal y) (sym e) in
        elim (eqb_tells (constant_word y).value 0) [
          | inl t ↦ rw t.0 tt
          | inr t ↦ rw t.0 (plain_fits op context x y kind (as_divisor (record { dividend = names.0; divisor = names.1; not_zero = omega (arith, t.1) })) h k)
        ]

operated_fits : (op : BinaryOp) (context : Shape) (x y : Typed) → kind_of op ≡ Arithmetic → IsFitAt context x → IsFitAt context y → FitsIn context (operated true context op x y)
operated_fits binary.Div context x y kind h k = division_fits binary.Div context x y kind (λ d. d) h k
operated_fits binary.Rem context x y kind h k = division_fits binary.Rem context x y kind (λ d. d) h k
operated_fits binary.Shl context x y kind h k = cc
operated_fits binary.Shr context x y kind h k = cc
operated_fits binary.ArithShl context x y kind h k = cc
operated_fits binary.ArithShr context x y kind h k = cc
operated_fits binary.Lt context x y kind h k = cc
operated_fits binary.Le context x y kind h k = cc
operated_fits binary.Gt context x y kind h k = cc
operated_fits binary.Ge context x y kind h k = cc
operated_fits binary.Eq context x y kind h k = cc
operated_fits binary.Ne context x y kind h k = cc
operated_fits binary.LogicAnd context x y kind h k = cc
operated_fits binary.LogicOr context x y kind h k = cc
operated_fits op context x y kind h k = plain_fits op context x y kind tt h k

-- an operator that is no arithmetic is no division
pub no_divisor : (op : BinaryOp) (x y : Typed) → (kind_of op ≡ Arithmetic → ⊥) → FitsDivisor op x y
no_divisor binary.Div x y other = absurd (other refl)
no_divisor binary.Rem x y other = absurd (other refl)
no_divisor _ x y other = tt

shift_fits : (op : BinaryOp) (context : Shape) (x y : Typed) → kind_of op ≡ Moving → IsFitAt context x → IsFit y → IsFitAt context (typed context (node.Binary op x y))
shift_fits op context x y kind h k = record {
  fit = (shape_is_fit context x h, (subst (λ (z : Kind). FitsBinary z context (shape_of x) (shape_of y)) (sym kind) h.at, no_divisor op x y (λ arithmetic. cc), h.fit, k));
  at = refl;
}

-- An expression that fits is typed so in its context.
pub in_context-fit : (s : Sized) (context : Shape) → IsFitSized s → (own s).width ≤ context.width → FitsIn context (in_context true s context)
in_context-fit (Leaf shape (Earlier fault)) context fits wide = tt
in_context-fit (Leaf shape (Own fault)) context fits wide =
    elim (leb_tells (suc 64) context.width) [
      | inl t ↦ rw t.0 tt
      | inr t ↦ rw t.0 tt
    ]
in_context-fit (Leaf shape (Good n)) context fits wide =
    elim (leb_tells (suc 64) context.width) [
      | inl t ↦ rw t.0 tt
      | inr t ↦ rw t.0 (brought_fits shape n context fits.0 (fits.1 (omega arith)) wide (omega arith))
    ]
in_context-fit (Unary op a) context fits wide =
    bind (IsFitAt context) (IsFitAt context) (in_context true a context) _ (in_context-fit a context fits.1 wide) (λ x h. unary_fits op context x fits.0 h)
in_context-fit (Binary op a b) context fits wide =
    bind (IsFitAt context) (IsFitAt context) (in_context true a context) _ (in_context-fit a context fits.1 (omega arith))
    (λ x h. bind (IsFitAt context) (IsFitAt context) (in_context true b context) _ (in_context-fit b context fits.2 (omega arith))
    (λ y k. operated_fits op context x y fits.0 h k))
in_context-fit (Shift op a amount) context fits wide =
    bind (IsFitAt context) (IsFitAt context) (in_context true a context) _ (in_context-fit a context fits.1 wide)
    (λ x h. bind IsFit (IsFitAt context) amount _ fits.2 (λ y k. shift_fits op context x y fits.0 h k))
in_context-fit (Choose c a b) context fits wide =
    bind IsFit (IsFitAt context) c _ fits.0
    (λ x f. bind (IsFitAt context) (IsFitAt context) (in_context true a context) _ (in_context-fit a context fits.1 (omega arith))
    (λ y h. bind (IsFitAt context) (IsFitAt context) (in_context true b context) _ (in_context-fit b context fits.2 (omega arith))
    (λ z k. record { fit = (shape_is_fit context y h, (h.at, k.at, f, h.fit, k.fit)); at = refl })))

-- by itself
pub by_itself-fit : (s : Sized) → IsFitSized s → FitsIn (own s) (by_itself s)
by_itself-fit s fits = in_context-fit s (own s) fits (omega arith)

-- an answer whose typed expression fits
only_fits : (context : Shape) (answer : Answer) → FitsIn context answer → IfOk answer IsFit
only_fits context (Ok e) h = h.fit
only_fits context (Err f) h = tt

pub by_itself-is_fit : (s : Sized) → IsFitSized s → IfOk (by_itself s) IsFit
by_itself-is_fit s fits = only_fits (own s) (by_itself s) (by_itself-fit s fits)

-- a fact that does not speak of the answer
whatever : (P : Type 0) (r : Answer) → P → IfOk r (λ _. P)
whatever P (Ok x) h = h
whatever P (Err e) h = tt

-- A context in which an expression has a typed form has 1 to 64 bits.
pub in_context-bits : (tests : Bool) (s : Sized) (context : Shape) → IsFitSized s → (own s).width ≤ context.width → IfOk (in_context tests s context) (λ _. IsShape context)
in_context-bits tests (Leaf shape (Earlier fault)) context fits wide = tt
in_context-bits tests (Leaf shape (Own fault)) context fits wide =
    elim (leb_tells (suc 64) context.width) [
      | inl t ↦ rw t.0 tt
      | inr t ↦ rw t.0 tt
    ]
in_context-bits tests (Leaf shape (Good n)) context fits wide =
    elim (leb_tells (suc 64) context.width) [
      | inl t ↦ rw t.0 tt
      | inr t ↦ rw t.0 (record { some_bits = omega (arith, fits.0); at_most_64 = omega arith })
    ]
in_context-bits tests (Unary op a) context fits wide =
    bind (λ _. IsShape context) (λ _. IsShape context) (in_context tests a context) _ (in_context-bits tests a context fits.1 wide) (λ x h. h)
in_context-bits tests (Binary op a b) context fits wide =
    bind (λ _. IsShape context) (λ _. IsShape context) (in_context tests a context) _ (in_context-bits tests a context fits.1 (omega arith)) (λ x h. whatever (IsShape context) _ h)
in_context-bits tests (Shift op a amount) context fits wide =
    bind (λ _. IsShape context) (λ _. IsShape context) (in_context tests a context) _ (in_context-bits tests a context fits.1 wide) (λ x h. whatever (IsShape context) _ h)
in_context-bits tests (Choose c a b) context fits wide =
    bind (λ _. Unit {0}) (λ _. IsShape context) c _ (whatever (Unit {0}) c tt)
    (λ x _. bind (λ _. IsShape context) (λ _. IsShape context) (in_context tests a context) _ (in_context-bits tests a context fits.1 (omega arith)) (λ y h. whatever (IsShape context) _ h))
