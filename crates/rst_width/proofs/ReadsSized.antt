-- Sized expressions read inside their signals, and so does what is typed of them.
use Rattle.std.proofs.Common.{◌≡◌, ℕ, suc, ◌+◌, ◌-◌, ◌^◌, ◌<◌, ◌≤◌, Bool, true, false, cond, not, ◌||◌, ◌&&◌, Ok, Err, Some, None, Option, refl, sym, subst, arith, nat_lt, nat_eq, Result, inl, inr}
use Rattle.std.specs.Prelude.{IfOk, ℤ, pos, int_le, unsigned_abs, ◌-ℤ◌}
use Rattle.std.proofs.lemmas.Bool.Decides.{leb_tells, nat_tests}
use Rattle.std.proofs.lemmas.Int.{ints}
use Rattle.rst_word.specs.declared.ops.UnaryOp.{UnaryOp}
use Rattle.rst_word.specs.declared.ops.UnaryOp.TheVariants as unary
use Rattle.rst_word.specs.declared.ops.BinaryOp.{BinaryOp}
use Rattle.rst_tree.specs.Trees.{Text, Tree, Trees}
use Rattle.rst_tree.specs.Trees as tree
use Rattle.rst_width.specs.declared.typed_expr.Shape.{Shape}
use Rattle.rst_width.specs.declared.typed_expr.WidthFault.{WidthFault}
use Rattle.rst_width.specs.declared.typed_expr.WidthFault.TheVariants.{TooWide, ZeroWidth, BadSelect, MayLeaveRange, NotConstant, ZeroDivisor}
use Rattle.rst_width.specs.Scopes.{Names, Meaning, Extent, Signal, Param, Later, AreMeanings}
use Rattle.rst_width.specs.Typed.{Typed, Node, TypedList, typed, shape_of, sized_as, names_signal, end, more}
use Rattle.rst_width.specs.Typed as node
use Rattle.rst_width.specs.Values.{constant_number, constant_word}
use Rattle.rst_width.specs.Sized.{Answer, Sized, Found, Leaf, Unary, Binary, Shift, Choose, Earlier, Own, Good, own, larger, in_context, by_itself, brought, operated, is_division}
use Rattle.rst_width.specs.Selects.{signal_at, stays_inside, in_range, place_in, bit_of, bit_found, part_of, part_found, number_of_part}
use Rattle.rst_width.specs.Sizing.{Kind, Arithmetic, Moving, Comparing, Deciding, kind_of, one_bit, above, unary_sized, binary_sized, decided, Parts, join_found, repeat_found, counted_found, named, sized, sized_parts}
use Rattle.rst_width.specs.Reads.{HaveWidths, ReadsInside, NodeReadsInside, AllReadInside}
use Rattle.rst_width.proofs.Fits.{bind}

module _ (widths : ℕ → ℕ) where
  -- what stands at a leaf reads inside, whatever its sign
  abbrev pub FoundReads : Shape → Found → Type 0
  FoundReads shape (Earlier fault) = Unit {0}
  FoundReads shape (Own fault) = Unit {0}
  FoundReads shape (Good n) = (signed : Bool) → NodeReadsInside widths (sized_as shape.width signed) n

  abbrev pub SizedReads : Sized → Type 0
  SizedReads (Leaf shape found) = FoundReads shape found
  SizedReads (Unary op a) = SizedReads a
  SizedReads (Binary op a b) = SizedReads a × SizedReads b
  SizedReads (Shift op a amount) = SizedReads a × IfOk amount (ReadsInside widths)
  SizedReads (Choose c a b) = IfOk c (ReadsInside widths) × SizedReads a × SizedReads b

  kept : (shape : Shape) (n : Node) (context : Shape) → shape.width ≡ context.width → ((signed : Bool) → NodeReadsInside widths (sized_as shape.width signed) n) → NodeReadsInside widths context n
  kept shape n context same reads = subst (λ (w : ℕ). NodeReadsInside widths (sized_as w context.signed) n) same (reads context.signed)

  brought-reads : (shape : Shape) (n : Node) (context : Shape) → shape.width ≤ context.width → ((signed : Bool) → NodeReadsInside widths (sized_as shape.width signed) n) → ReadsInside widths (brought shape n context)
  brought-reads shape n context wide reads =
      elim (leb_tells (suc shape.width) context.width) [
        | inl t ↦ rw t.0 (reads shape.signed)
        | inr t ↦ rw t.0 (kept shape n context (omega arith) reads)
      ]

  operated-reads : (tests : Bool) (context : Shape) (op : BinaryOp) (x y : Typed) → ReadsInside widths x → ReadsInside widths y → IfOk (operated tests context op x y) (ReadsInside widths)
  operated-reads tests context op x y h k = go (is_division op) (names_signal x || names_signal y) (tests && nat_eq (constant_word y).value 0)
    where
      go : (division names zero_divisor : Bool) → IfOk (cond division (cond names (Err NotConstant) (cond zero_divisor (Err ZeroDivisor) (Ok (typed context (node.Binary op x y))))) (Ok (typed context (node.Binary op x y)))) (ReadsInside widths)
      go false names zero_divisor = (h, k)
      go true true zero_divisor = tt
      go true false true = tt
      go true false false = (h, k)

  pub in_context-reads : (tests : Bool) (s : Sized) (context : Shape) → SizedReads s → (own s).width ≤ context.width → IfOk (in_context tests s context) (ReadsInside widths)
  in_context-reads tests (Leaf shape (Earlier fault)) context reads wide = tt
  in_context-reads tests (Leaf shape (Own fault)) context reads wide =
      elim (leb_tells (suc 64) context.width) [
        | inl t ↦ rw t.0 tt
        | inr t ↦ rw t.0 tt
      ]
  in_context-reads tests (Leaf shape (Good n)) context reads wide =
      elim (leb_tells (suc 64) context.width) [
        | inl t ↦ rw t.0 tt
        | inr t ↦ rw t.0 (brought-reads shape n context wide reads)
      ]
  in_context-reads tests (Unary op a) context reads wide =
      bind (ReadsInside widths) (ReadsInside widths) (in_context tests a context) _ (in_context-reads tests a context reads wide) (λ x h. h)
  in_context-reads tests (Binary op a b) context reads wide =
      bind (ReadsInside widths) (ReadsInside widths) (in_context tests a context) _ (in_context-reads tests a context reads.0 (omega arith))
      (λ x h. bind (ReadsInside widths) (ReadsInside widths) (in_context tests b context) _ (in_context-reads tests b context reads.1 (omega arith))
      (λ y k. operated-reads tests context op x y h k))
  in_context-reads tests (Shift op a amount) context reads wide =
      bind (ReadsInside widths) (ReadsInside widths) (in_context tests a context) _ (in_context-reads tests a context reads.0 wide)
      (λ x h. bind (ReadsInside widths) (ReadsInside widths) amount _ reads.1 (λ y k. (h, k)))
  in_context-reads tests (Choose c a b) context reads wide =
      bind (ReadsInside widths) (ReadsInside widths) c _ reads.0
      (λ x f. bind (ReadsInside widths) (ReadsInside widths) (in_context tests a context) _ (in_context-reads tests a context reads.1 (omega arith))
      (λ y h. bind (ReadsInside widths) (ReadsInside widths) (in_context tests b context) _ (in_context-reads tests b context reads.2 (omega arith))
      (λ z k. (f, h, k))))

  pub by_itself-reads : (s : Sized) → SizedReads s → IfOk (by_itself s) (ReadsInside widths)
  by_itself-reads s reads = in_context-reads true s (own s) reads (omega arith)

  -- a choice between two facts, of which the first knows that the test holds
  when : (P : Found → Type 0) (b : Bool) (x y : Found) → (b ≡ true → P x) → (b ≡ false → P y) → P (cond b x y)
  when P true x y h k = h refl
  when P false x y h k = k refl

  signal_at-reads : (shape : Shape) (constant : Bool) (n : Node) → ((signed : Bool) → NodeReadsInside widths (sized_as shape.width signed) n) → FoundReads shape (signal_at constant n)
  signal_at-reads shape constant n h = when (FoundReads shape) constant (Own NotConstant) (Good n) (λ _. tt) (λ _. h)

  variable_fits : (shape : Extent) (index : Shape) → stays_inside shape index ≡ true → 2 ^ index.width ≤ shape.width
  variable_fits shape index h = go index.signed (nat_eq shape.low 0) h
    where
      last : (b : Bool) → not b ≡ true → b ≡ false
      last false e = refl
      last true e = cc

      go : (s z : Bool) → (not s && (z && not (nat_lt shape.width (2 ^ index.width)))) ≡ true → 2 ^ index.width ≤ shape.width
      go true z e = cc
      go false false e = cc
      go false true e = let no : nat_lt shape.width (2 ^ index.width) ≡ false = last _ e in grind (arith, nat_tests)

  both_true : (a b : Bool) → (a && b) ≡ true → (a ≡ true) × (b ≡ true)
  both_true true b h = (refl, h)
  both_true false b h = cc

  place_below : (low width : ℕ) (place : ℤ) → 0 < width → int_le (pos low) place ≡ true → int_le place (pos (low + width - 1)) ≡ true → unsigned_abs (place -ℤ pos low) + 1 ≤ width
  place_below low width place some h k = grind (arith, ints)

  place_fits : (shape : Extent) (place : ℤ) → 0 < shape.width → in_range shape place ≡ true → place_in shape place + 1 ≤ shape.width
  place_fits shape place some h = let ends = both_true _ _ h in place_below shape.low shape.width place some ends.0 ends.1

  part_below : (low width : ℕ) (from to : ℤ) → 0 < width → int_le (pos low) from ≡ true → int_le to (pos (low + width - 1)) ≡ true → int_le from to ≡ true
      → unsigned_abs (from -ℤ pos low) + suc (unsigned_abs (to -ℤ from)) ≤ width
  part_below low width from to some h k o = grind (arith, ints)

  part_fits : (shape : Extent) (high low : ℤ) → 0 < shape.width → in_range shape high ≡ true → in_range shape low ≡ true → int_le low high ≡ true → place_in shape low + suc (unsigned_abs (high -ℤ low)) ≤ shape.width
  part_fits shape high low some h k o =
      let above = both_true _ _ h in
      let below = both_true _ _ k in
      part_below shape.low shape.width low high some below.0 above.1 o

  bit_of-reads : (constant : Bool) (i : ℕ) (shape : Extent) (index : Typed) → 0 < shape.width → widths i ≡ shape.width → ReadsInside widths index → FoundReads one_bit (bit_of constant i shape index)
  bit_of-reads constant i shape index some same reads =
      when (FoundReads one_bit) (not shape.ranged) (Own BadSelect) _ (λ _. tt)
      (λ _. when (FoundReads one_bit) (names_signal index) _ _
      (λ _. when (FoundReads one_bit) (stays_inside shape (shape_of index)) (signal_at constant (node.Pick i index)) (Own MayLeaveRange)
      (λ t. signal_at-reads one_bit constant (node.Pick i index) (λ _. (omega (arith, variable_fits shape (shape_of index) t, same), reads))) (λ _. tt))
      (λ _. when (FoundReads one_bit) (in_range shape (constant_number index)) (signal_at constant (node.Slice i (place_in shape (constant_number index)) 1)) (Own BadSelect)
      (λ t. signal_at-reads one_bit constant (node.Slice i (place_in shape (constant_number index)) 1) (λ _. omega (arith, place_fits shape (constant_number index) some t, same))) (λ _. tt)))

  part_of-reads : (constant : Bool) (i : ℕ) (shape : Extent) (whole : Shape) (high low : Option ℤ) → 0 < shape.width → widths i ≡ shape.width → FoundReads whole (part_of constant i shape high low)
  part_of-reads constant i shape whole (Some high) (Some low) some same = go (not shape.ranged) (in_range shape high) (in_range shape low) (int_le low high) refl refl refl
    where
      go : (scalar h l o : Bool) → h ≡ in_range shape high → l ≡ in_range shape low → o ≡ int_le low high
          → FoundReads whole (cond (scalar || (not h || (not l || not o))) (Own BadSelect) (signal_at constant (node.Slice i (place_in shape low) (suc (unsigned_abs (high -ℤ low))))))
      go true h l o e f g = tt
      go false false l o e f g = tt
      go false true false o e f g = tt
      go false true true false e f g = tt
      go false true true true e f g =
          signal_at-reads whole constant (node.Slice i (place_in shape low) (suc (unsigned_abs (high -ℤ low)))) (λ _. omega (arith, part_fits shape high low some (sym e) (sym f) (sym g), same))
  part_of-reads constant i shape whole (Some high) None some same = when (FoundReads whole) _ (Own BadSelect) (Own NotConstant) (λ _. tt) (λ _. tt)
  part_of-reads constant i shape whole None low some same = when (FoundReads whole) _ (Own BadSelect) (Own NotConstant) (λ _. tt) (λ _. tt)

  above-reads : (shape : Shape) (a : Answer) (make : Typed → Node) → IfOk a (ReadsInside widths) → ((x : Typed) → ReadsInside widths x → FoundReads shape (Good (make x))) → FoundReads shape (above a make)
  above-reads shape (Ok x) make h k = k x h
  above-reads shape (Err fault) make h k = tt

  decided-reads : (op : BinaryOp) (a b : Answer) → IfOk a (ReadsInside widths) → IfOk b (ReadsInside widths) → SizedReads (decided op a b)
  decided-reads op (Ok x) (Ok y) h k = λ _. (h, k)
  decided-reads op (Ok x) (Err fault) h k = tt
  decided-reads op (Err fault) b h k = tt

  unary-reads : (op : UnaryOp) (a : Sized) → SizedReads a → SizedReads (unary_sized op a)
  unary-reads unary.Plus a h = h
  unary-reads unary.Minus a h = h
  unary-reads unary.Invert a h = h
  unary-reads op a h = above-reads one_bit (by_itself a) (λ x. node.Unary op x) (by_itself-reads a h) (λ x k _. k)

  binary-reads : (kind : Kind) (op : BinaryOp) (a b : Sized) → SizedReads a → SizedReads b → SizedReads (binary_sized kind op a b)
  binary-reads Arithmetic op a b h k = (h, k)
  binary-reads Moving op a b h k = (h, by_itself-reads b k)
  binary-reads Comparing op a b h k =
      let both = larger (own a) (own b) in
      decided-reads op (in_context true a both) (in_context true b both) (in_context-reads true a both h (omega arith)) (in_context-reads true b both k (omega arith))
  binary-reads Deciding op a b h k = decided-reads op (by_itself a) (by_itself b) (by_itself-reads a h) (by_itself-reads b k)

  PartsRead : Parts → Type 0
  PartsRead parts = IfOk parts.list (AllReadInside widths)

  join-reads : (whole : Shape) (list : Result TypedList WidthFault) → IfOk list (AllReadInside widths) → FoundReads whole (join_found list)
  join-reads whole (Err fault) h = tt
  join-reads whole (Ok end) h = tt
  join-reads whole (Ok (more x xs)) h = λ _. h

  repeat_found-reads : (whole : Shape) (number : Option ℤ) (width : ℕ) (parts : TypedList) → AllReadInside widths parts → FoundReads whole (repeat_found number width parts)
  repeat_found-reads whole None width parts h = tt
  repeat_found-reads whole (Some count) width end h = tt
  repeat_found-reads whole (Some count) width (more x xs) h =
      when (FoundReads whole) (int_le (pos 1) count) _ (Own ZeroWidth)
      (λ _. when (FoundReads whole) _ (Own TooWide) (Good (node.Repeat (unsigned_abs count) (more x xs))) (λ _. tt) (λ _ _. h)) (λ _. tt)

  counted-reads : (whole : Shape) (count : Answer) (width : ℕ) (list : Result TypedList WidthFault) → IfOk list (AllReadInside widths) → FoundReads whole (counted_found count width list)
  counted-reads whole (Err fault) width list h = tt
  counted-reads whole (Ok count) width (Err fault) h = tt
  counted-reads whole (Ok count) width (Ok parts) h = repeat_found-reads whole (number_of_part (Ok count)) width parts h

module _ (widths : ℕ → ℕ) (names : Names) (meant : AreMeanings names) (right : HaveWidths widths names) where
  named-reads : (constant : Bool) (name : Text) (e : Option Meaning) → names name ≡ e → SizedReads widths (named constant name e)
  named-reads constant name None is = tt
  named-reads constant name (Some (Signal i shape)) is = signal_at-reads widths (sized_as shape.width shape.signed) constant (node.Signal i) (λ _. right name i shape is)
  named-reads constant name (Some (Param w)) is = λ _. tt
  named-reads constant name (Some (Later ranged)) is = tt

  bit-reads : (constant : Bool) (name : Text) (e : Option Meaning) (index : Answer) → names name ≡ e → IfOk index (ReadsInside widths) → FoundReads widths one_bit (bit_found constant name e index)
  bit-reads constant name e (Err fault) is h = tt
  bit-reads constant name None (Ok index) is h = tt
  bit-reads constant name (Some (Param w)) (Ok index) is h = tt
  bit-reads constant name (Some (Signal i shape)) (Ok index) is h = bit_of-reads widths constant i shape index (meant name _ is).some_bits (right name i shape is) h
  bit-reads constant name (Some (Later ranged)) (Ok index) is h = tt

  part-reads : (whole : Shape) (constant : Bool) (name : Text) (e : Option Meaning) (high low : Answer) → names name ≡ e → FoundReads widths whole (part_found constant name e high low)
  part-reads whole constant name e (Err fault) low is = tt
  part-reads whole constant name e (Ok high) (Err fault) is = tt
  part-reads whole constant name None (Ok high) (Ok low) is = tt
  part-reads whole constant name (Some (Param w)) (Ok high) (Ok low) is = tt
  part-reads whole constant name (Some (Signal i shape)) (Ok high) (Ok low) is =
      part_of-reads widths constant i shape whole (number_of_part (Ok high)) (number_of_part (Ok low)) (meant name _ is).some_bits (right name i shape is)
  part-reads whole constant name (Some (Later ranged)) (Ok high) (Ok low) is = tt

  mutual
    pub sized-reads : (constant : Bool) (e : Tree) → SizedReads widths (sized constant names e)
    sized-reads constant (tree.Number n) = λ _. tt
    sized-reads constant (tree.Name n) = named-reads constant n (names n) refl
    sized-reads constant (tree.Bit n i) = bit-reads constant n (names n) (by_itself (sized constant names i)) refl (by_itself-reads widths (sized constant names i) (sized-reads constant i))
    sized-reads constant (tree.Part n h l) = part-reads (own (sized constant names (tree.Part n h l))) constant n (names n) (by_itself (sized constant names h)) (by_itself (sized constant names l)) refl
    sized-reads constant (tree.Paren e) = sized-reads constant e
    sized-reads constant (tree.Unary op e) = unary-reads widths op (sized constant names e) (sized-reads constant e)
    sized-reads constant (tree.Binary op a b) = binary-reads widths (kind_of op) op (sized constant names a) (sized constant names b) (sized-reads constant a) (sized-reads constant b)
    sized-reads constant (tree.Choose c a b) = (by_itself-reads widths (sized constant names c) (sized-reads constant c), sized-reads constant a, sized-reads constant b)
    sized-reads constant (tree.Join es) = join-reads widths (own (sized constant names (tree.Join es))) (sized_parts constant names es).list (sized_parts-reads constant es)
    sized-reads constant (tree.Repeat n es) = counted-reads widths (own (sized constant names (tree.Repeat n es))) (by_itself (sized constant names n)) (sized_parts constant names es).width (sized_parts constant names es).list (sized_parts-reads constant es)
    sized-reads constant (tree.Signed e) = above-reads widths (own (sized constant names (tree.Signed e))) (by_itself (sized constant names e)) node.Sign (by_itself-reads widths (sized constant names e) (sized-reads constant e)) (λ x k _. k)
    sized-reads constant (tree.Unsigned e) = above-reads widths (own (sized constant names (tree.Unsigned e))) (by_itself (sized constant names e)) node.Sign (by_itself-reads widths (sized constant names e) (sized-reads constant e)) (λ x k _. k)

    pub sized_parts-reads : (constant : Bool) (es : Trees) → IfOk (sized_parts constant names es).list (AllReadInside widths)
    sized_parts-reads constant tree.end = tt
    sized_parts-reads constant (tree.more x xs) =
        bind (ReadsInside widths) (AllReadInside widths) (by_itself (sized constant names x)) _ (by_itself-reads widths (sized constant names x) (sized-reads constant x))
        (λ y h. bind (AllReadInside widths) (AllReadInside widths) (sized_parts constant names xs).list _ (sized_parts-reads constant xs) (λ ys k. (h, k)))

  -- what is typed of an expression in a context that is at least as wide
  pub typed-reads : (tests constant : Bool) (e : Tree) (context : Shape) → (own (sized constant names e)).width ≤ context.width → IfOk (in_context tests (sized constant names e) context) (ReadsInside widths)
  typed-reads tests constant e context wide = in_context-reads widths tests (sized constant names e) context (sized-reads constant e) wide
