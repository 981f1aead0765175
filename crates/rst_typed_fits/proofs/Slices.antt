-- The slices of a typed target lie inside their signals, and are no wider than it.
use Rattle.std.proofs.Common.{◌≡◌, ◌∙◌, ℕ, ◌+◌, ◌<◌, ◌≤◌, true, List, [], ◌∷◌, ◌++◌, arith, refl}
use Rattle.std.specs.List.{AllByRecursion}
use Rattle.std.proofs.lemmas.Bool.{and_parts}
use Rattle.rst_width.specs.declared.typed_expr.Shape.{Shape}
use Rattle.rst_width.specs.Typed.{Typed, Node, TypedList, typed, shape_of}
use Rattle.rst_width.specs.Typed as node
use Rattle.rst_width.specs.Fit.{IsFit, IsFitNode, IsShape, AreFit, widths}
use Rattle.rst_width.specs.Reads.{ReadsInside, NodeReadsInside, AllReadInside}
use Rattle.rst_net.specs.declared.signal.Slice.{Slice}
use Rattle.rst_cycle.specs.Effects.{target_width}
use Rattle.rst_typing.specs.Typing.{slices_of, slices_at, slices_of_all, is_settable, is_settable_at, are_settable}
use Rattle.rst_statement_values.specs.Fits.{SliceInside}

pub all_joined : {X : Type 0} (P : X → Type 0) (xs ys : List X) → AllByRecursion P xs → AllByRecursion P ys → AllByRecursion P (xs ++ ys)
all_joined P [] ys h k = k
all_joined P (x ∷ xs) ys h k = (h.0, all_joined P xs ys h.1 k)

pub width_joined : (a b : List Slice) → target_width (a ++ b) ≡ target_width a + target_width b
width_joined [] b = omega arith
width_joined (x ∷ a) b = omega (arith, width_joined a b)

mutual
  pub slices_inside : (room : ℕ → ℕ) (t : Typed) → IsFit t → ReadsInside room t → AllByRecursion (SliceInside room) (slices_of t)
  slices_inside room (typed shape n) fit reads = slices_inside_at room shape n fit.0 fit.1 reads

  slices_inside_at : (room : ℕ → ℕ) (shape : Shape) (n : Node) → IsShape shape → IsFitNode shape n → NodeReadsInside room shape n → AllByRecursion (SliceInside room) (slices_at shape n)
  slices_inside_at room shape (node.Signal i) some fit reads = (record { some_bits = some.some_bits; inside = omega (arith, reads) }, tt)
  slices_inside_at room shape (node.Slice i low width) some fit reads = (record { some_bits = omega (arith, some.some_bits, fit); inside = reads }, tt)
  slices_inside_at room shape (node.Join es) some fit reads = all_inside room es fit.1 reads
  slices_inside_at room shape n some fit reads = tt

  all_inside : (room : ℕ → ℕ) (es : TypedList) → AreFit es → AllReadInside room es → AllByRecursion (SliceInside room) (slices_of_all es)
  all_inside room node.end fit reads = tt
  all_inside room (node.more x xs) fit reads =
      all_joined (SliceInside room) (slices_of x) (slices_of_all xs) (slices_inside room x fit.0 reads.0) (all_inside room xs fit.1 reads.1)

mutual
  pub slices_narrow : (t : Typed) → IsFit t → target_width (slices_of t) ≤ (shape_of t).width
  slices_narrow (typed shape n) fit = slices_narrow_at shape n fit.1

  slices_narrow_at : (shape : Shape) (n : Node) → IsFitNode shape n → target_width (slices_at shape n) ≤ shape.width
  slices_narrow_at shape (node.Signal i) fit = omega arith
  slices_narrow_at shape (node.Slice i low width) fit = omega (arith, fit)
  slices_narrow_at shape (node.Join es) fit = omega (arith, fit.0, all_narrow es fit.1)
  slices_narrow_at shape n fit = omega arith

  all_narrow : (es : TypedList) → AreFit es → target_width (slices_of_all es) ≤ widths es
  all_narrow node.end fit = omega arith
  all_narrow (node.more x xs) fit = omega (arith, width_joined (slices_of x) (slices_of_all xs), slices_narrow x fit.0, all_narrow xs fit.1)

-- a target all parts of which can be set has all its bits in its slices
mutual
  pub slices_whole : (t : Typed) → IsFit t → is_settable t ≡ true → target_width (slices_of t) ≡ (shape_of t).width
  slices_whole (typed shape n) fit can = slices_whole_at shape n fit.1 can

  slices_whole_at : (shape : Shape) (n : Node) → IsFitNode shape n → is_settable_at n ≡ true → target_width (slices_at shape n) ≡ shape.width
  slices_whole_at shape (node.Signal i) fit can = omega arith
  slices_whole_at shape (node.Slice i low width) fit can = omega (arith, fit)
  slices_whole_at shape (node.Join es) fit can = all_whole es fit.1 can ∙ fit.0
  slices_whole_at shape n fit can = absurd cc

  all_whole : (es : TypedList) → AreFit es → are_settable es ≡ true → target_width (slices_of_all es) ≡ widths es
  all_whole node.end fit can = refl
  all_whole (node.more x xs) fit can =
      let both = and_parts (is_settable x) (are_settable xs) can in
      omega (arith, width_joined (slices_of x) (slices_of_all xs), slices_whole x fit.0 both.0, all_whole xs fit.1 both.1)

pub some_bits : (t : Typed) → IsFit t → 0 < (shape_of t).width
some_bits (typed shape n) fit = fit.0.some_bits
