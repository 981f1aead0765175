-- Cut widths give the same typed expressions and faults as whole ones.
use Rattle.std.proofs.Common.{◌≡◌, ℕ, min, max, ◌<◌, ◌≤◌, Bool, true, false, Ok, Err, refl, ap, arith, nat_lt, inl, inr}
use Rattle.std.proofs.lemmas.Bool.{le-ltb, lt-ltb}
use Rattle.std.proofs.lemmas.Bool.Decides.{leb_tells}
use Rattle.rst_width.specs.declared.typed_expr.Shape.{Shape}
use Rattle.rst_width.specs.declared.typed_expr.WidthFault.{WidthFault}
use Rattle.rst_width.specs.declared.typed_expr.WidthFault.TheVariants.{TooWide}
use Rattle.rst_width.specs.Typed.{Node, sized_as}
use Rattle.rst_width.specs.Sized.{Sized, Leaf, Unary, Binary, Shift, Choose, Earlier, Own, Good, own, larger, in_context, by_itself, brought}
use Rattle.rst_width.specs.Cut.{cut, cut_shape}

with_width : (v w : ℕ) (signed : Bool) → v ≡ w → ◌≡◌ {A = Shape} (record { width = v; signed = signed }) (record { width = w; signed = signed })
with_width v w signed e = ap (λ (x : ℕ). record { width = x; signed = signed }) e

pub larger-cut : (a b : Shape) → larger (cut_shape a) (cut_shape b) ≡ cut_shape (larger a b)
larger-cut a b = with_width _ _ _ (omega arith)

pub own-cut : (s : Sized) → own (cut s) ≡ cut_shape (own s)
own-cut (Leaf shape found) = refl
own-cut (Unary op a) = own-cut a
own-cut (Binary op a b) = rw (own-cut a, own-cut b) (larger-cut (own a) (own b))
own-cut (Shift op a amount) = own-cut a
own-cut (Choose c a b) = rw (own-cut a, own-cut b) (larger-cut (own a) (own b))

pub same_when_narrow : (shape : Shape) → shape.width ≤ 64 → cut_shape shape ≡ shape
same_when_narrow shape h = with_width _ _ _ (omega arith)

-- a narrow context
brought-cut : (shape : Shape) (node : Node) (context : Shape) → context.width ≤ 64 → brought (cut_shape shape) node context ≡ brought shape node context
brought-cut shape node context h =
    elim (leb_tells shape.width 64) [
      | inl t ↦ ap (λ (x : Shape). brought x node context) (same_when_narrow shape t.1)
      | inr t ↦
          let long : nat_lt shape.width context.width ≡ false = le-ltb shape.width context.width (omega arith) in
          let cut_long : nat_lt (min shape.width 65) context.width ≡ false = le-ltb (min shape.width 65) context.width (omega arith) in
          rw (long, cut_long) refl
    ]

narrow : (tests : Bool) (s : Sized) (context : Shape) → context.width ≤ 64 → in_context tests (cut s) context ≡ in_context tests s context
narrow tests (Leaf shape (Earlier fault)) context h = refl
narrow tests (Leaf shape (Own fault)) context h = refl
narrow tests (Leaf shape (Good node)) context h = rw (brought-cut shape node context h) refl
narrow tests (Unary op a) context h = rw (narrow tests a context h) refl
narrow tests (Binary op a b) context h = rw (narrow tests a context h, narrow tests b context h) refl
narrow tests (Shift op a amount) context h = rw (narrow tests a context h) refl
narrow tests (Choose c a b) context h = rw (narrow tests a context h, narrow tests b context h) refl

-- a context above 64 bits: the fault is the first among those that no context decides, and the leaves' TooWide
pub wide_fault : Sized → WidthFault
wide_fault (Leaf shape (Earlier fault)) = fault
wide_fault (Leaf shape (Own fault)) = TooWide
wide_fault (Leaf shape (Good node)) = TooWide
wide_fault (Unary op a) = wide_fault a
wide_fault (Binary op a b) = wide_fault a
wide_fault (Shift op a amount) = wide_fault a
wide_fault (Choose (Ok c) a b) = wide_fault a
wide_fault (Choose (Err fault) a b) = fault

pub wide : (tests : Bool) (s : Sized) (context : Shape) → 64 < context.width → in_context tests s context ≡ Err (wide_fault s)
unfolding wide_fault
wide tests (Leaf shape (Earlier fault)) context h = refl
wide tests (Leaf shape (Own fault)) context h = rw (lt-ltb 64 context.width h) refl
wide tests (Leaf shape (Good node)) context h = rw (lt-ltb 64 context.width h) refl
wide tests (Unary op a) context h = rw (wide tests a context h) refl
wide tests (Binary op a b) context h = rw (wide tests a context h) refl
wide tests (Shift op a amount) context h = rw (wide tests a context h) refl
wide tests (Choose (Ok c) a b) context h = rw (wide tests a context h) refl
wide tests (Choose (Err fault) a b) context h = refl

wide_fault-cut : (s : Sized) → wide_fault (cut s) ≡ wide_fault s
unfolding wide_fault
wide_fault-cut (Leaf shape (Earlier fault)) = refl
wide_fault-cut (Leaf shape (Own fault)) = refl
wide_fault-cut (Leaf shape (Good node)) = refl
wide_fault-cut (Unary op a) = wide_fault-cut a
wide_fault-cut (Binary op a b) = wide_fault-cut a
wide_fault-cut (Shift op a amount) = wide_fault-cut a
wide_fault-cut (Choose (Ok c) a b) = wide_fault-cut a
wide_fault-cut (Choose (Err fault) a b) = refl

-- Cut widths and a cut context give what the whole ones give.
pub in_context-cut : (tests : Bool) (s : Sized) (context : Shape) → in_context tests (cut s) (cut_shape context) ≡ in_context tests s context
in_context-cut tests s context =
    elim (leb_tells context.width 64) [
      | inl t ↦ rw (same_when_narrow context t.1) (narrow tests s context t.1)
      | inr t ↦ rw (wide tests (cut s) (cut_shape context) (omega arith), wide tests s context t.1) (ap Err (wide_fault-cut s))
    ]

-- two contexts above 64 bits
pub wide_alike : (tests : Bool) (s : Sized) (a b : Shape) → 64 < a.width → 64 < b.width → in_context tests (cut s) a ≡ in_context tests s b
wide_alike tests s a b h k = rw (wide tests (cut s) a h, wide tests s b k) (ap Err (wide_fault-cut s))

-- In a context as wide as a cut width or another one, an expression becomes what it becomes with the whole width there.
pub wider-cut : (tests : Bool) (s : Sized) (w c : ℕ) (signed : Bool) → in_context tests (cut s) (sized_as (max (min w 65) c) signed) ≡ in_context tests s (sized_as (max w c) signed)
wider-cut tests s w c signed =
    elim (leb_tells (max w c) 64) [
      | inl t ↦ rw (with_width (max (min w 65) c) (max w c) signed (omega arith)) (narrow tests s (sized_as (max w c) signed) t.1)
      | inr t ↦ wide_alike tests s (sized_as (max (min w 65) c) signed) (sized_as (max w c) signed) (omega arith) (omega arith)
    ]

pub by_itself-cut : (s : Sized) → by_itself (cut s) ≡ by_itself s
by_itself-cut s = rw (own-cut s) (in_context-cut true s (own s))

-- the context of both operands of a comparison
pub compared-cut : (s a b : Sized) → in_context true (cut s) (larger (own (cut a)) (own (cut b))) ≡ in_context true s (larger (own a) (own b))
compared-cut s a b = rw (own-cut a, own-cut b, larger-cut (own a) (own b)) (in_context-cut true s (larger (own a) (own b)))
