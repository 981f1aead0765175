-- Sizing with cut widths gives the same as with whole ones.
use Rattle.std.proofs.Common.{◌≡◌, ℕ, ◌+◌, ◌*◌, min, ◌<◌, ◌≤◌, Bool, true, false, cond, Ok, Err, Some, None, Option, List, length, drop, get_or, refl, ap, sym, subst, ◌∙◌, arith, nat_lt, Result, inl, inr}
use Rattle.std.specs.Prelude.{IfOk, ℤ, pos, int_le, unsigned_abs}
use Rattle.std.proofs.lemmas.Bool.{le-ltb, lt-ltb}
use Rattle.std.proofs.lemmas.Bool.Decides.{leb_tells}
use Rattle.std.proofs.lemmas.Int.{ints}
use Rattle.std.proofs.lemmas.List.{at_drop_more, at_drop_all}
use Rattle.std.proofs.Math.Nat.{le-mul_of_pos_right, mul_comm}
use Rattle.rst_word.specs.declared.ops.UnaryOp.{UnaryOp}
use Rattle.rst_word.specs.declared.ops.UnaryOp.TheVariants as unary
use Rattle.rst_word.specs.declared.ops.BinaryOp.{BinaryOp}
use Rattle.rst_tree.specs.declared.expr.Expr.{Expr}
use Rattle.rst_tree.specs.Trees.{Tree, Trees, plain, plain_all}
use Rattle.rst_tree.specs.Trees as tree
use Rattle.rst_width.specs.declared.typed_expr.Shape.{Shape}
use Rattle.rst_width.specs.Scopes.{Names, AreMeanings}
use Rattle.rst_width.specs.declared.typed_expr.WidthFault.{WidthFault}
use Rattle.rst_width.specs.declared.typed_expr.WidthFault.TheVariants.{TooWide, ZeroWidth}
use Rattle.rst_width.specs.Typed.{Typed, Node, TypedList, end, more, appended, sized_as}
use Rattle.rst_width.specs.Typed as node
use Rattle.rst_width.specs.Sized.{Answer, Sized, Leaf, Shift, Own, Good, own, larger, in_context, by_itself, ◌>>=◌}
use Rattle.rst_width.specs.Selects.{number_of_part}
use Rattle.rst_width.specs.Sizing.{Kind, Arithmetic, Moving, Comparing, Deciding, one_bit, above, unary_sized, binary_sized, decided, cast_sized, Parts, join_sized, repeat_sized, repeat_shape, repeat_found, counted_found, times, with_part, no_parts, sized, sized_parts}
use Rattle.rst_width.specs.Cut.{cut, cut_shape, cut_width, cut_parts, with_last, with_next, IsFitSized, HasWidth}
use Rattle.rst_width.proofs.Cuts.{own-cut, by_itself-cut, compared-cut}
use Rattle.rst_width.proofs.SizingFits.{sized-fit, sized_parts-fit, cut-fit, AreFitAt, some_width}

pub unary_sized-cut : (op : UnaryOp) (a : Sized) → unary_sized op (cut a) ≡ cut (unary_sized op a)
unary_sized-cut unary.Plus a = refl
unary_sized-cut unary.Minus a = refl
unary_sized-cut unary.Invert a = refl
unary_sized-cut op a = ap (λ (r : Answer). Leaf one_bit (above r (λ x. node.Unary op x))) (by_itself-cut a)

pub binary_sized-cut : (kind : Kind) (op : BinaryOp) (a b : Sized) → binary_sized kind op (cut a) (cut b) ≡ cut (binary_sized kind op a b)
binary_sized-cut Arithmetic op a b = refl
binary_sized-cut Moving op a b = ap (Shift op (cut a)) (by_itself-cut b)
binary_sized-cut Comparing op a b =
    ap (λ (r : Answer). decided op r (in_context true (cut b) (larger (own (cut a)) (own (cut b))))) (compared-cut a a b)
    ∙ ap (λ (r : Answer). decided op (in_context true a (larger (own a) (own b))) r) (compared-cut b a b)
binary_sized-cut Deciding op a b = ap (λ (r : Answer). decided op r (by_itself (cut b))) (by_itself-cut a) ∙ ap (λ (r : Answer). decided op (by_itself a) r) (by_itself-cut b)

pub cast_sized-cut : (signed : Bool) (a : Sized) → cast_sized signed (cut a) ≡ cut (cast_sized signed a)
cast_sized-cut signed a =
    ap (λ (s : Shape). Leaf (sized_as s.width signed) (above (by_itself (cut a)) node.Sign)) (own-cut a)
    ∙ ap (λ (r : Answer). Leaf (sized_as (cut_width (own a).width) signed) (above r node.Sign)) (by_itself-cut a)

-- count times a cut width
cut_product : (n w : ℕ) → 0 < n → cut_width (n * cut_width w) ≡ cut_width (n * w)
cut_product n w h =
    elim (leb_tells w 64) [
      | inl t ↦ let same : min w 65 ≡ w = omega arith in ap (λ (v : ℕ). cut_width (n * v)) same
      | inr t ↦
          let cut_is : min w 65 ≡ 65 = omega arith in
          let low : 65 ≤ n * 65 = omega arith in
          let high : w ≤ w * n = le-mul_of_pos_right w h in
          let turned : w * n ≡ n * w = mul_comm w n in
          ap (λ (v : ℕ). cut_width (n * v)) cut_is ∙ omega arith
    ]

-- the same test of a product
product_test : (v w : ℕ) → cut_width v ≡ cut_width w → nat_lt 64 v ≡ nat_lt 64 w
product_test v w e =
    elim (leb_tells w 64) [
      | inl t ↦ let low : v ≤ 64 = omega arith in le-ltb 64 v low ∙ sym (le-ltb 64 w t.1)
      | inr t ↦ let high : 64 < v = omega arith in lt-ltb 64 v high ∙ sym (lt-ltb 64 w t.1)
    ]

at_least_one : (count : ℤ) → int_le (pos 1) count ≡ true → 0 < unsigned_abs count
at_least_one count h = grind (arith, ints)

some_shape : (count : ℤ) (width : ℕ) (some : Bool) → some ≡ int_le (pos 1) count
    → cut_shape (cond some (sized_as (unsigned_abs count * cut_width width) false) (sized_as 0 true)) ≡ cut_shape (cond some (sized_as (unsigned_abs count * width) false) (sized_as 0 true))
some_shape count width false e = refl
some_shape count width true e = ap (λ (w : ℕ). sized_as w false) (cut_product (unsigned_abs count) width (at_least_one count (sym e)))

repeat_shape-cut : (number : Option ℤ) (width : ℕ) → cut_shape (repeat_shape number (cut_width width)) ≡ cut_shape (repeat_shape number width)
repeat_shape-cut None width = refl
repeat_shape-cut (Some count) width = some_shape count width (int_le (pos 1) count) refl

some_found : (count : ℤ) (width : ℕ) (parts : TypedList) (some : Bool) → some ≡ int_le (pos 1) count
    → cond some (times (unsigned_abs count) (cut_width width) parts) (Own ZeroWidth) ≡ cond some (times (unsigned_abs count) width parts) (Own ZeroWidth)
some_found count width parts false e = refl
some_found count width parts true e =
    ap (λ (b : Bool). cond b (Own TooWide) (Good (node.Repeat (unsigned_abs count) parts)))
    (product_test (unsigned_abs count * cut_width width) (unsigned_abs count * width) (cut_product (unsigned_abs count) width (at_least_one count (sym e))))

repeat_found-cut : (number : Option ℤ) (width : ℕ) (parts : TypedList) → repeat_found number (cut_width width) parts ≡ repeat_found number width parts
repeat_found-cut None width parts = refl
repeat_found-cut (Some count) width end = refl
repeat_found-cut (Some count) width (more x xs) = some_found count width (more x xs) (int_le (pos 1) count) refl

counted_found-cut : (count : Answer) (width : ℕ) (list : Result TypedList WidthFault) → counted_found count (cut_width width) list ≡ counted_found count width list
counted_found-cut (Err fault) width list = refl
counted_found-cut (Ok count) width (Err fault) = refl
counted_found-cut (Ok count) width (Ok parts) = repeat_found-cut (number_of_part (Ok count)) width parts

pub repeat_sized-cut : (count : Answer) (parts : Parts) → cut (repeat_sized count (cut_parts parts)) ≡ cut (repeat_sized count parts)
repeat_sized-cut count parts =
    ap (λ (s : Shape). Leaf s (counted_found count (cut_width parts.width) parts.list)) (repeat_shape-cut (number_of_part count) parts.width)
    ∙ ap (Leaf (cut_shape (repeat_shape (number_of_part count) parts.width))) (counted_found-cut count parts.width parts.list)

-- some parts, and behind them others
pub front_of : TypedList → TypedList → TypedList
front_of end ys = ys
front_of (more x xs) ys = more x (front_of xs ys)

front_of-appended : (xs : TypedList) (x : Typed) (ys : TypedList) → front_of (appended xs x) ys ≡ front_of xs (more x ys)
unfolding front_of
front_of-appended end x ys = refl
front_of-appended (more z zs) x ys = ap (more z) (front_of-appended zs x ys)

front_of-end : (xs : TypedList) → front_of xs end ≡ xs
unfolding front_of
front_of-end end = refl
front_of-end (more x xs) = ap (more x) (front_of-end xs)

-- parts, and behind them others, with a cut width
pub followed_by : Parts → Parts → Parts
followed_by front back = record {
  width = cut_width (front.width + back.width);
  list = front.list >>= λ xs. back.list >>= λ ys. Ok (front_of xs ys);
}

parts_are : (v w : ℕ) (xs ys : Result TypedList WidthFault) → v ≡ w → xs ≡ ys → ◌≡◌ {A = Parts} (record { width = v; list = xs }) (record { width = w; list = ys })
parts_are v w xs ys e f = ap (λ (x : ℕ). record { width = x; list = xs }) e ∙ ap (λ (zs : Result TypedList WidthFault). record { width = w; list = zs }) f

behind_none : (ys : Result TypedList WidthFault) → (ys >>= λ zs. Ok (front_of end zs)) ≡ ys
unfolding front_of
behind_none (Ok zs) = refl
behind_none (Err fault) = refl

before_none : (xs : Result TypedList WidthFault) → (xs >>= λ ys. Ok (front_of ys end)) ≡ xs
before_none (Ok ys) = ap Ok (front_of-end ys)
before_none (Err fault) = refl

moved : (xs : Result TypedList WidthFault) (s : Answer) (ys : Result TypedList WidthFault)
    → ((xs >>= λ us. with_last us s) >>= λ us. ys >>= λ vs. Ok (front_of us vs)) ≡ (xs >>= λ us. (s >>= λ x. ys >>= λ vs. Ok (more x vs)) >>= λ vs. Ok (front_of us vs))
moved (Ok us) (Ok x) (Ok vs) = ap Ok (front_of-appended us x vs)
moved (Ok us) (Ok x) (Err fault) = refl
moved (Ok us) (Err fault) ys = refl
moved (Err fault) s ys = refl

-- before the first part
pub followed_by-none : (back : Parts) → followed_by (record { width = 0; list = Ok end }) back ≡ cut_parts back
unfolding followed_by
followed_by-none back = parts_are _ _ _ _ (omega arith) (behind_none back.list)

-- one part moves to the front
pub followed_by-next : (front : Parts) (s : Sized) (back : Parts) → followed_by (with_next front (cut s)) back ≡ followed_by front (with_part s back)
unfolding followed_by
followed_by-next front s back =
    let own_is : (own (cut s)).width ≡ min (own s).width 65 = ap (λ (x : Shape). x.width) (own-cut s) in
    parts_are _ _ _ _ (omega arith)
    (ap (λ (r : Answer). (front.list >>= λ us. with_last us r) >>= λ us. back.list >>= λ vs. Ok (front_of us vs)) (by_itself-cut s) ∙ moved front.list (by_itself s) back.list)

-- behind the last part
pub followed_by-all : (front : Parts) → front.width ≤ 65 → followed_by front no_parts ≡ front
unfolding followed_by
followed_by-all front h = parts_are _ _ _ _ (omega arith) (before_none front.list)

-- what a sized join, repetition or cast is, from what its parts are
module _ (constant : Bool) (names : Names) where
  pub sized-Join : (e : Tree) (ts : Trees) (p : Parts) (s : Sized) → e ≡ tree.Join ts → p ≡ cut_parts (sized_parts constant names ts) → s ≡ join_sized p → s ≡ cut (sized constant names e)
  sized-Join e ts p s is parts made = made ∙ ap join_sized parts ∙ ap (λ (x : Tree). cut (sized constant names x)) (sym is)

  pub sized-Repeat : (e n : Tree) (ts : Trees) (count : Answer) (p : Parts) (s : Sized) → e ≡ tree.Repeat n ts → count ≡ by_itself (sized constant names n)
      → p ≡ cut_parts (sized_parts constant names ts) → s ≡ cut (repeat_sized count p) → s ≡ cut (sized constant names e)
  sized-Repeat e n ts count p s is counted parts made =
      made ∙ ap (λ (x : Parts). cut (repeat_sized count x)) parts ∙ repeat_sized-cut count (sized_parts constant names ts)
      ∙ ap (λ (x : Answer). cut (repeat_sized x (sized_parts constant names ts))) counted ∙ ap (λ (x : Tree). cut (sized constant names x)) (sym is)

  pub sized-Signed : (e m : Tree) (a s : Sized) → e ≡ tree.Signed m → a ≡ cut (sized constant names m) → s ≡ cast_sized true a → s ≡ cut (sized constant names e)
  sized-Signed e m a s is inner made =
      made ∙ ap (cast_sized true) inner ∙ cast_sized-cut true (sized constant names m) ∙ ap (λ (x : Tree). cut (sized constant names x)) (sym is)

  pub sized-Unsigned : (e m : Tree) (a s : Sized) → e ≡ tree.Unsigned m → a ≡ cut (sized constant names m) → s ≡ cast_sized false a → s ≡ cut (sized constant names e)
  sized-Unsigned e m a s is inner made =
      made ∙ ap (cast_sized false) inner ∙ cast_sized-cut false (sized constant names m) ∙ ap (λ (x : Tree). cut (sized constant names x)) (sym is)

  -- one turn of the loop over parts
  pub next_part : (xs : List Expr) (i : ℕ) (x : Expr) (front front' : Parts) (s : Sized) → i < length xs → x ≡ get_or xs i x → front' ≡ with_next front s → s ≡ cut (sized constant names (plain x))
      → followed_by front' (sized_parts constant names (plain_all (drop (i + 1) xs))) ≡ followed_by front (sized_parts constant names (plain_all (drop i xs)))
  next_part xs i x front front' s inside item next is =
      let rest = sized_parts constant names (plain_all (drop (i + 1) xs)) in
      let here : sized_parts constant names (plain_all (drop i xs)) ≡ with_part (sized constant names (plain x)) rest =
      at_drop_more (λ (ys : List Expr). sized_parts constant names (plain_all ys)) xs i x inside ∙ ap (λ (y : Expr). with_part (sized constant names (plain y)) rest) (sym item) in
      ap (λ (f : Parts). followed_by f rest) next ∙ ap (λ (z : Sized). followed_by (with_next front z) rest) is
      ∙ followed_by-next front (sized constant names (plain x)) rest ∙ ap (followed_by front) (sym here)

  -- behind the last turn
  pub all_parts : (xs : List Expr) (i : ℕ) (front total : Parts) → length xs ≤ i → front.width ≤ 65 → followed_by front (sized_parts constant names (plain_all (drop i xs))) ≡ total → front ≡ total
  all_parts xs i front total behind small is =
      sym (followed_by-all front small) ∙ ap (followed_by front) (sym (at_drop_all (λ (ys : List Expr). sized_parts constant names (plain_all ys)) xs i behind)) ∙ is

  pub sized_is_fit : AreMeanings names → (e : Tree) (s : Sized) → s ≡ cut (sized constant names e) → IsFitSized s
  sized_is_fit right e s is = subst IsFitSized (sym is) (cut-fit (sized constant names e) (sized-fit constant names right e))

  -- parts that fit have a width
  fit_width : (width : ℕ) (list : Result TypedList WidthFault) → IfOk list (AreFitAt width) → IfOk list (HasWidth (cut_width width))
  fit_width width (Ok end) h = tt
  fit_width width (Ok (more x xs)) h = let some = some_width x xs h.fit in omega (arith, h.sum)
  fit_width width (Err fault) h = tt

  pub parts_have_width : AreMeanings names → (ts : Trees) (p : Parts) → p ≡ cut_parts (sized_parts constant names ts) → IfOk p.list (HasWidth p.width)
  parts_have_width right ts p is =
      let total = sized_parts constant names ts in
      subst (λ (x : Parts). IfOk x.list (HasWidth x.width)) (sym is) (fit_width total.width total.list (sized_parts-fit constant names right ts))

pub ruleset sizing_cuts = (unary_sized-cut, binary_sized-cut, cast_sized-cut, by_itself-cut, repeat_sized-cut)
