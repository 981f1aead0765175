-- What is sized fits together.
use Rattle.std.proofs.Common.{◌≡◌, ℕ, suc, ◌+◌, ◌*◌, min, ◌<◌, Bool, true, false, cond, not, ◌||◌, Ok, Err, Some, None, Option, refl, ap, sym, subst, ◌∙◌, arith, nat_lt, Result}
use Rattle.std.specs.Prelude.{IfOk, IfSome, ℤ, pos, int_le, unsigned_abs, ◌-ℤ◌}
use Rattle.std.proofs.lemmas.Int.{ints}
use Rattle.std.proofs.Math.Nat.{mul-pos}
use Rattle.rst_lex.specs.declared.token.Literal.{Literal}
use Rattle.rst_word.specs.declared.ops.UnaryOp.{UnaryOp}
use Rattle.rst_word.specs.declared.ops.UnaryOp.TheVariants as unary
use Rattle.rst_word.specs.declared.ops.BinaryOp.{BinaryOp}
use Rattle.rst_tree.specs.Trees.{Text, Tree, Trees}
use Rattle.rst_tree.specs.Trees as tree
use Rattle.rst_width.specs.declared.typed_expr.Shape.{Shape}
use Rattle.rst_width.specs.declared.typed_expr.WidthFault.{WidthFault}
use Rattle.rst_width.specs.declared.typed_expr.WidthFault.TheVariants.{BadSelect, NotConstant, MayLeaveRange, TooWide, ZeroWidth}
use Rattle.rst_width.specs.Scopes.{Names, Meaning, Extent, Signal, Param, Later, IsMeaning, AreMeanings}
use Rattle.rst_width.specs.Typed.{Typed, Node, TypedList, typed, shape_of, sized_as, names_signal, end, more}
use Rattle.rst_width.specs.Typed as node
use Rattle.rst_width.specs.Values.{constant_number}
use Rattle.rst_width.specs.Sized.{Answer, Sized, Found, Leaf, Unary, Binary, Shift, Choose, Earlier, Own, Good, own, larger, in_context, by_itself}
use Rattle.rst_width.specs.Selects.{signal_at, stays_inside, in_range, place_in, bit_of, bit_found, part_of, part_shape, number_of_part, leaves_range}
use Rattle.rst_width.specs.Sizing.{Kind, Arithmetic, Moving, Comparing, Deciding, kind_of, one_bit, above, above_both, unary_sized, binary_sized, cast_sized, Parts, join_sized, join_found, repeat_sized, repeat_shape, repeat_found, counted_found, with_part, named, sized, sized_parts, part_sized}
use Rattle.rst_width.specs.Fit.{IsFit, IsFitAt, IsFitNode, AreFit, FitsBinary, widths}
use Rattle.rst_width.specs.Cut.{cut, IsFitFound, IsFitSized}
use Rattle.rst_width.proofs.Fits.{in_context-fit, by_itself-fit, by_itself-is_fit, bind, no_divisor, fit_width}

-- a choice between two facts
either : (P : Found → Type 0) (b : Bool) (x y : Found) → P x → P y → P (cond b x y)
either P true x y h k = h
either P false x y h k = k

signal_at-fit : (shape : Shape) (constant : Bool) (n : Node) → IsFitFound shape (Good n) → IsFitFound shape (signal_at constant n)
signal_at-fit shape constant n h = either (IsFitFound shape) constant (Own NotConstant) (Good n) tt h

number-fit : (n : Literal) → IsFitSized (Leaf (sized_as n.width n.signed) (Good (node.Word (record { width = n.width; signed = n.signed; value = n.value }))))
number-fit n = (omega (arith, n.not_empty), λ _ _. (record { some_bits = omega (arith, n.not_empty); at_most_64 = n.in_word; fits = n.value_fits }, refl))

-- what a name stands for, where that is right
some_meaning : (m : Option Meaning) → ((x : Meaning) → m ≡ Some x → IsMeaning x) → IfSome m IsMeaning
some_meaning None right = tt
some_meaning (Some x) right = right x refl

named-fit : (constant : Bool) (name : Text) (m : Option Meaning) → IfSome m IsMeaning → IsFitSized (named constant name m)
named-fit constant name None h = tt
named-fit constant name (Some (Signal i extent)) h = signal_at-fit (sized_as extent.width extent.signed) constant (node.Signal i) (h.some_bits, λ _ _. tt)
named-fit constant name (Some (Param w)) h = (h.some_bits, λ _ _. (h, refl))
named-fit constant name (Some (Later ranged)) h = tt

bit_of-fit : (constant : Bool) (i : ℕ) (shape : Extent) (index : Typed) → IsFit index → IsFitFound one_bit (bit_of constant i shape index)
bit_of-fit constant i shape index h =
    either (IsFitFound one_bit) (not shape.ranged) (Own BadSelect) _ tt
    (either (IsFitFound one_bit) (names_signal index) _ _
    (either (IsFitFound one_bit) (stays_inside shape (shape_of index)) _ (Own MayLeaveRange)
    (signal_at-fit one_bit constant (node.Pick i index) (omega arith, λ _ _. (refl, h))) tt)
    (either (IsFitFound one_bit) (in_range shape (constant_number index)) _ (Own BadSelect)
    (signal_at-fit one_bit constant _ (omega arith, λ _ _. refl)) tt))

bit_found-fit : (constant : Bool) (name : Text) (e : Option Meaning) (index : Answer) → IfOk index IsFit → IsFitFound one_bit (bit_found constant name e index)
bit_found-fit constant name e (Err fault) h = tt
bit_found-fit constant name None (Ok index) h = tt
bit_found-fit constant name (Some (Param w)) (Ok index) h = tt
bit_found-fit constant name (Some (Signal i shape)) (Ok index) h = bit_of-fit constant i shape index h
bit_found-fit constant name (Some (Later ranged)) (Ok index) h = tt

-- a part-select whose ends have numbers: where it is good, its width is that of its shape
ends-fit : (constant : Bool) (i place distance : ℕ) (scalar above_range below_range ordered : Bool)
    → IsFitFound (cond ordered (sized_as (suc distance) false) (sized_as 0 true))
    (cond (scalar || (above_range || (below_range || not ordered))) (Own BadSelect) (signal_at constant (node.Slice i place (suc distance))))
ends-fit constant i place distance true above_range below_range ordered = tt
ends-fit constant i place distance false true below_range ordered = tt
ends-fit constant i place distance false false true ordered = tt
ends-fit constant i place distance false false false false = tt
ends-fit constant i place distance false false false true =
    signal_at-fit (sized_as (suc distance) false) constant (node.Slice i place (suc distance)) (omega arith, λ _ _. refl)

part_of-fit : (constant : Bool) (i : ℕ) (shape : Extent) (high low : Option ℤ) → IsFitFound (part_shape high low) (part_of constant i shape high low)
part_of-fit constant i shape (Some high) (Some low) =
    ends-fit constant i (place_in shape low) (unsigned_abs (high -ℤ low)) (not shape.ranged) (leaves_range shape (Some high)) (leaves_range shape (Some low)) (int_le low high)
part_of-fit constant i shape (Some high) None = either (IsFitFound (sized_as 0 true)) _ (Own BadSelect) (Own NotConstant) tt tt
part_of-fit constant i shape None low = either (IsFitFound (sized_as 0 true)) _ (Own BadSelect) (Own NotConstant) tt tt

part-fit : (constant : Bool) (name : Text) (e : Option Meaning) (high low : Answer) → IsFitSized (part_sized constant name e high low)
part-fit constant name e (Err fault) low = tt
part-fit constant name e (Ok high) (Err fault) = tt
part-fit constant name None (Ok high) (Ok low) = tt
part-fit constant name (Some (Param w)) (Ok high) (Ok low) = tt
part-fit constant name (Some (Later ranged)) (Ok high) (Ok low) = tt
part-fit constant name (Some (Signal i shape)) (Ok high) (Ok low) = part_of-fit constant i shape (number_of_part (Ok high)) (number_of_part (Ok low))

-- what stands above one part, and above two
above-fit : (shape : Shape) (P : Typed → Type 0) (a : Answer) (make : Typed → Node) → IfOk a P → ((x : Typed) → P x → IsFitFound shape (Good (make x))) → IsFitFound shape (above a make)
above-fit shape P (Ok x) make h k = k x h
above-fit shape P (Err fault) make h k = tt

above_both-fit : (shape : Shape) (P : Typed → Type 0) (a b : Answer) (make : Typed → Typed → Node) → IfOk a P → IfOk b P → ((x y : Typed) → P x → P y → IsFitFound shape (Good (make x y))) → IsFitFound shape (above_both a b make)
above_both-fit shape P (Ok x) (Ok y) make h k f = f x y h k
above_both-fit shape P (Ok x) (Err fault) make h k f = tt
above_both-fit shape P (Err fault) b make h k f = tt

unary-fit : (op : UnaryOp) (a : Sized) → IsFitSized a → IsFitSized (unary_sized op a)
unary-fit unary.Plus a h = (tt, h)
unary-fit unary.Minus a h = (tt, h)
unary-fit unary.Invert a h = (tt, h)
unary-fit op a h = above-fit one_bit IsFit (by_itself a) (λ x. node.Unary op x) (by_itself-is_fit a h) (λ x k. (omega arith, λ _ _. (refl, k)))

compared-fit : (op : BinaryOp) (context : Shape) (x y : Typed) → kind_of op ≡ Comparing → IsFitAt context x → IsFitAt context y → IsFitFound one_bit (Good (node.Binary op x y))
compared-fit op context x y kind h k =
    (omega arith, λ _ signed. (subst (λ (z : Kind). FitsBinary z (sized_as 1 signed) (shape_of x) (shape_of y)) (sym kind) (refl, h.at ∙ sym k.at), no_divisor op x y (λ arithmetic. cc), h.fit, k.fit))

decided-fit : (op : BinaryOp) (x y : Typed) → kind_of op ≡ Deciding → IsFit x → IsFit y → IsFitFound one_bit (Good (node.Binary op x y))
decided-fit op x y kind h k =
    (omega arith, λ _ signed. (subst (λ (z : Kind). FitsBinary z (sized_as 1 signed) (shape_of x) (shape_of y)) (sym kind) refl, no_divisor op x y (λ arithmetic. cc), h, k))

binary-fit : (kind : Kind) (op : BinaryOp) (a b : Sized) → kind_of op ≡ kind → IsFitSized a → IsFitSized b → IsFitSized (binary_sized kind op a b)
binary-fit Arithmetic op a b e h k = (e, h, k)
binary-fit Moving op a b e h k = (e, h, by_itself-is_fit b k)
binary-fit Comparing op a b e h k =
    let both = larger (own a) (own b) in
    above_both-fit one_bit (IsFitAt both) (in_context true a both) (in_context true b both) (λ x y. node.Binary op x y)
    (in_context-fit a both h (omega arith)) (in_context-fit b both k (omega arith)) (λ x y f g. compared-fit op both x y e f g)
binary-fit Deciding op a b e h k =
    above_both-fit one_bit IsFit (by_itself a) (by_itself b) (λ x y. node.Binary op x y) (by_itself-is_fit a h) (by_itself-is_fit b k) (λ x y f g. decided-fit op x y e f g)

cast-fit : (signed : Bool) (a : Sized) → IsFitSized a → IsFitSized (cast_sized signed a)
cast-fit signed a h =
    above-fit (sized_as (own a).width signed) (IsFitAt (own a)) (by_itself a) node.Sign (by_itself-fit a h)
    (λ x k. (fit_width (own a) x k, λ _ _. (ap (λ (s : Shape). s.width) k.at, k.fit)))

-- parts of this width together
pub record AreFitAt (width : ℕ) (xs : TypedList) : Type 0 where
  pub sum : widths xs ≡ width
  pub fit : AreFit xs

abbrev pub FitParts : Parts → Type 0
FitParts parts = IfOk parts.list (AreFitAt parts.width)

with_part-fit : (first : Sized) (others : Parts) → IsFitSized first → FitParts others → FitParts (with_part first others)
with_part-fit first others h k =
    bind (IsFitAt (own first)) (AreFitAt ((own first).width + others.width)) (by_itself first) _ (by_itself-fit first h)
    (λ x f. bind (AreFitAt others.width) (AreFitAt ((own first).width + others.width)) others.list _ k
    (λ xs g. record { sum = omega (arith, ap (λ (s : Shape). s.width) f.at, g.sum); fit = (f.fit, g.fit) }))

pub some_width : (x : Typed) (xs : TypedList) → AreFit (more x xs) → 0 < widths (more x xs)
some_width (typed shape n) xs h = omega (arith, h.0.0.some_bits)

join-fit : (parts : Parts) → FitParts parts → IsFitSized (join_sized parts)
join-fit parts h = go parts.list h
  where
    go : (list : Result TypedList WidthFault) → IfOk list (AreFitAt parts.width) → IsFitFound (sized_as parts.width false) (join_found list)
    go (Err fault) k = tt
    go (Ok end) k = tt
    go (Ok (more x xs)) k = (omega (arith, k.sum, some_width x xs k.fit), λ _ _. (k.sum, k.fit))

at_least_one : (count : ℤ) → int_le (pos 1) count ≡ true → 0 < unsigned_abs count
at_least_one count h = grind (arith, ints)

-- a repetition whose count has a number
counted-fit : (count : ℤ) (width : ℕ) (x : Typed) (xs : TypedList) → AreFitAt width (more x xs) → (some : Bool) → some ≡ int_le (pos 1) count
    → IsFitFound (cond some (sized_as (unsigned_abs count * width) false) (sized_as 0 true))
    (cond some (cond (nat_lt 64 (unsigned_abs count * width)) (Own TooWide) (Good (node.Repeat (unsigned_abs count) (more x xs)))) (Own ZeroWidth))
counted-fit count width x xs h false e = tt
counted-fit count width x xs h true e =
    let positive = at_least_one count (sym e) in
    let some : 0 < width = omega (arith, h.sum, some_width x xs h.fit) in
    either (IsFitFound (sized_as (unsigned_abs count * width) false)) _ (Own TooWide) (Good (node.Repeat (unsigned_abs count) (more x xs))) tt
    (mul-pos positive some, λ _ _. (positive, ap (λ w. unsigned_abs count * w) h.sum, h.fit))

repeat_found-fit : (number : Option ℤ) (width : ℕ) (parts : TypedList) → AreFitAt width parts → IsFitFound (repeat_shape number width) (repeat_found number width parts)
repeat_found-fit None width parts h = tt
repeat_found-fit (Some count) width end h = tt
repeat_found-fit (Some count) width (more x xs) h = counted-fit count width x xs h (int_le (pos 1) count) refl

repeat-fit : (count : Answer) (parts : Parts) → FitParts parts → IsFitSized (repeat_sized count parts)
repeat-fit count parts h = go count parts.list h
  where
    go : (counted : Answer) (list : Result TypedList WidthFault) → IfOk list (AreFitAt parts.width) → IsFitFound (repeat_shape (number_of_part counted) parts.width) (counted_found counted parts.width list)
    go (Err fault) list k = tt
    go (Ok counted) (Err fault) k = tt
    go (Ok counted) (Ok xs) k = repeat_found-fit (number_of_part (Ok counted)) parts.width xs k

mutual
  pub sized-fit : (constant : Bool) (names : Names) (right : AreMeanings names) (e : Tree) → IsFitSized (sized constant names e)
  sized-fit constant names right (tree.Number n) = number-fit n
  sized-fit constant names right (tree.Name n) = named-fit constant n (names n) (some_meaning (names n) (right n))
  sized-fit constant names right (tree.Bit n i) = bit_found-fit constant n (names n) _ (by_itself-is_fit _ (sized-fit constant names right i))
  sized-fit constant names right (tree.Part n h l) = part-fit constant n (names n) _ _
  sized-fit constant names right (tree.Paren e) = sized-fit constant names right e
  sized-fit constant names right (tree.Unary op e) = unary-fit op _ (sized-fit constant names right e)
  sized-fit constant names right (tree.Binary op a b) = binary-fit (kind_of op) op _ _ refl (sized-fit constant names right a) (sized-fit constant names right b)
  sized-fit constant names right (tree.Choose c a b) = (by_itself-is_fit _ (sized-fit constant names right c), sized-fit constant names right a, sized-fit constant names right b)
  sized-fit constant names right (tree.Join es) = join-fit _ (sized_parts-fit constant names right es)
  sized-fit constant names right (tree.Repeat n es) = repeat-fit _ _ (sized_parts-fit constant names right es)
  sized-fit constant names right (tree.Signed e) = cast-fit true _ (sized-fit constant names right e)
  sized-fit constant names right (tree.Unsigned e) = cast-fit false _ (sized-fit constant names right e)

  pub sized_parts-fit : (constant : Bool) (names : Names) (right : AreMeanings names) (es : Trees) → FitParts (sized_parts constant names es)
  sized_parts-fit constant names right tree.end = record { sum = refl; fit = tt }
  sized_parts-fit constant names right (tree.more x xs) = with_part-fit _ _ (sized-fit constant names right x) (sized_parts-fit constant names right xs)

-- cut widths fit as well
pub cut-fit : (s : Sized) → IsFitSized s → IsFitSized (cut s)
cut-fit (Leaf shape (Earlier fault)) h = tt
cut-fit (Leaf shape (Own fault)) h = tt
cut-fit (Leaf shape (Good n)) h = (omega (arith, h.0), λ small signed. let same : min shape.width 65 ≡ shape.width = omega arith in subst (λ (w : ℕ). IsFitNode (sized_as w signed) n) (sym same) (h.1 (omega arith) signed))
cut-fit (Unary op a) h = (h.0, cut-fit a h.1)
cut-fit (Binary op a b) h = (h.0, cut-fit a h.1, cut-fit b h.2)
cut-fit (Shift op a amount) h = (h.0, cut-fit a h.1, h.2)
cut-fit (Choose c a b) h = (h.0, cut-fit a h.1, cut-fit b h.2)
