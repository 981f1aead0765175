-- Sizing with every signal NotConstant agrees with sizing where signals may stand.
use Rattle.std.proofs.Common.{◌≡◌, ◌∙◌, ℕ, ◌+◌, ◌*◌, true, false, ◌||◌, not, cond, Result, Ok, Err, Option, Some, None, refl, sym, ap, subst, nat_lt, suc}
use Rattle.std.specs.Prelude.{ℤ, pos, int_le, unsigned_abs, ◌-ℤ◌}
use Rattle.rst_word.specs.declared.ops.UnaryOp.{UnaryOp}
use Rattle.rst_word.specs.declared.ops.UnaryOp.TheVariants as unary
use Rattle.rst_word.specs.declared.ops.BinaryOp.{BinaryOp}
use Rattle.rst_word.specs.Words.{PlainWord}
use Rattle.rst_tree.specs.Trees.{Text, Tree, Trees}
use Rattle.rst_tree.specs.Trees as tree
use Rattle.rst_width.specs.declared.typed_expr.Shape.{Shape}
use Rattle.rst_width.specs.declared.typed_expr.WidthFault.{WidthFault}
use Rattle.rst_width.specs.declared.typed_expr.WidthFault.TheVariants.{BadSelect, MayLeaveRange, NotConstant, TooWide, ZeroWidth}
use Rattle.rst_width.specs.Scopes.{Names, Meaning, Extent, Signal, Param, Later}
use Rattle.rst_width.specs.Typed.{Typed, Node, TypedList, end, more, typed, names_signal, node_names, list_names, shape_of, sized_as}
use Rattle.rst_width.specs.Typed as node
use Rattle.rst_width.specs.Values.{constant_number, constant_word}
use Rattle.rst_width.specs.Sized.{Answer, Sized, Found, Earlier, Own, Good, own, larger, in_context, by_itself, ◌>>=◌}
use Rattle.rst_width.specs.Selects.{signal_at, in_range, place_in, stays_inside, bit_of, bit_found, number_of_part, part_shape, leaves_range, part_of, part_found}
use Rattle.rst_width.specs.Sizing.{Kind, Arithmetic, Moving, Comparing, Deciding, kind_of, above, above_both, named, unary_sized, binary_sized, decided, one_bit, Parts, with_part, join_found, repeat_shape, repeat_found, counted_found, repeat_sized, sized, sized_parts}
use Rattle.rst_width.specs.Answers.{HasValue, typed_answer, constant_answer, widened_shape}
use Rattle.rst_width.proofs.OneValue.{same_value}
use Rattle.rst_width.proofs.Agree.{Agree, on, both_false, left_true, right_true, named_bind, bind_agree, NamedFound, IsFault, AgreeFound, fault_agrees, AgreeSized, leaf, unary, binary, shift, choose, own_agree, in_context_agree, by_itself_agree}

-- what stands at a select names a signal, and is a fault where every signal is NotConstant
bit_of_named : (i : ℕ) (shape : Extent) (e : Typed) → NamedFound (bit_of false i shape e)
bit_of_named i shape e =
    let pick = signal_at false (node.Pick i e) in
    let slice = signal_at false (node.Slice i (place_in shape (constant_number e)) 1) in
    let variable = cond (stays_inside shape (shape_of e)) pick (Own MayLeaveRange) in
    let fixed = cond (in_range shape (constant_number e)) slice (Own BadSelect) in
    on (not shape.ranged) (λ b. NamedFound (cond b (Own BadSelect) (cond (names_signal e) variable fixed))) tt
    (on (names_signal e) (λ b. NamedFound (cond b variable fixed))
    (on (stays_inside shape (shape_of e)) (λ b. NamedFound (cond b pick (Own MayLeaveRange))) refl tt)
    (on (in_range shape (constant_number e)) (λ b. NamedFound (cond b slice (Own BadSelect))) refl tt))

bit_of_fault : (i : ℕ) (shape : Extent) (e : Typed) → IsFault (bit_of true i shape e)
bit_of_fault i shape e =
    let none : Found = Own NotConstant in
    let variable = cond (stays_inside shape (shape_of e)) none (Own MayLeaveRange) in
    let fixed = cond (in_range shape (constant_number e)) none (Own BadSelect) in
    on (not shape.ranged) (λ b. IsFault (cond b (Own BadSelect) (cond (names_signal e) variable fixed))) tt
    (on (names_signal e) (λ b. IsFault (cond b variable fixed))
    (on (stays_inside shape (shape_of e)) (λ b. IsFault (cond b none (Own MayLeaveRange))) tt tt)
    (on (in_range shape (constant_number e)) (λ b. IsFault (cond b none (Own BadSelect))) tt tt))

bit_named : (name : Text) (found : Option Meaning) (index : Answer) → NamedFound (bit_found false name found index)
bit_named name found (Err e) = tt
bit_named name None (Ok e) = tt
bit_named name (Some (Param w)) (Ok e) = tt
bit_named name (Some (Signal i shape)) (Ok e) = bit_of_named i shape e
bit_named name (Some (Later ranged)) (Ok e) = tt

bit_fault : (name : Text) (found : Option Meaning) (index : Answer) → IsFault (bit_found true name found index)
bit_fault name found (Err e) = tt
bit_fault name None (Ok e) = tt
bit_fault name (Some (Param w)) (Ok e) = tt
bit_fault name (Some (Signal i shape)) (Ok e) = bit_of_fault i shape e
bit_fault name (Some (Later ranged)) (Ok e) = tt

part_of_named : (i : ℕ) (shape : Extent) (high low : Option ℤ) → NamedFound (part_of false i shape high low)
part_of_named i shape (Some h) (Some l) =
    on (not shape.ranged || (leaves_range shape (Some h) || (leaves_range shape (Some l) || not (int_le l h))))
    (λ b. NamedFound (cond b (Own BadSelect) (Good (node.Slice i (place_in shape l) (suc (unsigned_abs (h -ℤ l))))))) tt refl
part_of_named i shape None (Some l) =
    on (not shape.ranged || (leaves_range shape None || leaves_range shape (Some l))) (λ b. NamedFound (cond b (Own BadSelect) (Own NotConstant))) tt tt
part_of_named i shape (Some h) None =
    on (not shape.ranged || (leaves_range shape (Some h) || leaves_range shape None)) (λ b. NamedFound (cond b (Own BadSelect) (Own NotConstant))) tt tt
part_of_named i shape None None =
    on (not shape.ranged || (leaves_range shape None || leaves_range shape None)) (λ b. NamedFound (cond b (Own BadSelect) (Own NotConstant))) tt tt

part_of_fault : (i : ℕ) (shape : Extent) (high low : Option ℤ) → IsFault (part_of true i shape high low)
part_of_fault i shape (Some h) (Some l) =
    on (not shape.ranged || (leaves_range shape (Some h) || (leaves_range shape (Some l) || not (int_le l h)))) (λ b. IsFault (cond b (Own BadSelect) (Own NotConstant))) tt tt
part_of_fault i shape None (Some l) =
    on (not shape.ranged || (leaves_range shape None || leaves_range shape (Some l))) (λ b. IsFault (cond b (Own BadSelect) (Own NotConstant))) tt tt
part_of_fault i shape (Some h) None =
    on (not shape.ranged || (leaves_range shape (Some h) || leaves_range shape None)) (λ b. IsFault (cond b (Own BadSelect) (Own NotConstant))) tt tt
part_of_fault i shape None None =
    on (not shape.ranged || (leaves_range shape None || leaves_range shape None)) (λ b. IsFault (cond b (Own BadSelect) (Own NotConstant))) tt tt

part_named : (name : Text) (found : Option Meaning) (high low : Answer) → NamedFound (part_found false name found high low)
part_named name found (Err e) low = tt
part_named name found (Ok h) (Err e) = tt
part_named name None (Ok h) (Ok l) = tt
part_named name (Some (Param w)) (Ok h) (Ok l) = tt
part_named name (Some (Signal i shape)) (Ok h) (Ok l) = part_of_named i shape (number_of_part (Ok h)) (number_of_part (Ok l))
part_named name (Some (Later ranged)) (Ok h) (Ok l) = tt

part_fault : (name : Text) (found : Option Meaning) (high low : Answer) → IsFault (part_found true name found high low)
part_fault name found (Err e) low = tt
part_fault name found (Ok h) (Err e) = tt
part_fault name None (Ok h) (Ok l) = tt
part_fault name (Some (Param w)) (Ok h) (Ok l) = tt
part_fault name (Some (Signal i shape)) (Ok h) (Ok l) = part_of_fault i shape (number_of_part (Ok h)) (number_of_part (Ok l))
part_fault name (Some (Later ranged)) (Ok h) (Ok l) = tt

-- a part that has to be constant has the same number
number_agree : (x y : Answer) → Agree names_signal x y → number_of_part x ≡ number_of_part y
number_agree (Ok t) (Ok u) h = ap (λ (z : Typed). number_of_part (Ok z)) h.0
number_agree (Ok t) (Err e) h = ap (λ b. cond b None (Some (constant_number t))) h
number_agree (Err d) (Ok u) h = absurd h
number_agree (Err d) (Err e) h = refl

above_agree : (x y : Answer) (make : Typed → Node) → ((e : Typed) → node_names (make e) ≡ names_signal e) → Agree names_signal x y → AgreeFound (above x make) (above y make)
above_agree (Ok t) (Ok u) make k h = (ap make h.0, k t ∙ h.1)
above_agree (Ok t) (Err e) make k h = k t ∙ h
above_agree (Err d) (Ok u) make k h = absurd h
above_agree (Err d) (Err e) make k h = tt

both_agree : (op : BinaryOp) (a b c d : Answer) → Agree names_signal a b → Agree names_signal c d
    → AgreeFound (above_both a c (λ x y. node.Binary op x y)) (above_both b d (λ x y. node.Binary op x y))
both_agree op (Ok x) (Ok y) (Ok z) (Ok w) h k =
    (ap (λ (v : Typed). node.Binary op v z) h.0 ∙ ap (λ (v : Typed). node.Binary op y v) k.0, both_false _ _ h.1 k.1)
both_agree op (Ok x) (Ok y) (Ok z) (Err e) h k = right_true _ _ k
both_agree op (Ok x) (Ok y) (Err d) (Ok w) h k = absurd k
both_agree op (Ok x) (Ok y) (Err d) (Err e) h k = tt
both_agree op (Ok x) (Err e) (Ok z) d h k = left_true _ _ h
both_agree op (Ok x) (Err e) (Err f) d h k = tt
both_agree op (Err e) (Ok y) c d h k = absurd h
both_agree op (Err e) (Err f) c d h k = tt

decided_agree : (op : BinaryOp) (a b c d : Answer) → Agree names_signal a b → Agree names_signal c d → AgreeSized (decided op a c) (decided op b d)
decided_agree op a b c d h k = leaf one_bit one_bit _ _ refl (both_agree op a b c d h k)

unary_agree : (op : UnaryOp) {s t : Sized} → AgreeSized s t → AgreeSized (unary_sized op s) (unary_sized op t)
unary_agree unary.Plus h = unary unary.Plus _ _ h
unary_agree unary.Minus h = unary unary.Minus _ _ h
unary_agree unary.Invert h = unary unary.Invert _ _ h
unary_agree op {s} {t} h = leaf one_bit one_bit _ _ refl (above_agree (by_itself s) (by_itself t) (λ x. node.Unary op x) (λ e. refl) (by_itself_agree h))

binary_agree : (kind : Kind) (op : BinaryOp) {a b c d : Sized} → AgreeSized a b → AgreeSized c d → AgreeSized (binary_sized kind op a c) (binary_sized kind op b d)
binary_agree Arithmetic op h k = binary op _ _ _ _ h k
binary_agree Moving op h k = shift op _ _ _ _ h (by_itself_agree k)
binary_agree Comparing op {a} {b} {c} {d} h k =
    let both : larger (own a) (own c) ≡ larger (own b) (own d) = ap (λ (x : Shape). larger x (own c)) (own_agree h) ∙ ap (λ (x : Shape). larger (own b) x) (own_agree k) in
    decided_agree op (in_context true a (larger (own a) (own c))) (in_context true b (larger (own b) (own d))) (in_context true c (larger (own a) (own c))) (in_context true d (larger (own b) (own d)))
    (subst (λ (o : Shape). Agree names_signal (in_context true a (larger (own a) (own c))) (in_context true b o)) both (in_context_agree _ h))
    (subst (λ (o : Shape). Agree names_signal (in_context true c (larger (own a) (own c))) (in_context true d o)) both (in_context_agree _ k))
binary_agree Deciding op {a} {b} {c} {d} h k = decided_agree op (by_itself a) (by_itself b) (by_itself c) (by_itself d) (by_itself_agree h) (by_itself_agree k)

named_agree : (name : Text) (found : Option Meaning) → AgreeSized (named false name found) (named true name found)
named_agree name None = leaf _ _ _ _ refl tt
named_agree name (Some (Signal i shape)) = leaf _ _ _ _ refl refl
named_agree name (Some (Param w)) = leaf _ _ _ _ refl (refl, refl)
named_agree name (Some (Later ranged)) = leaf _ _ _ _ refl tt

-- parts that stand by themselves
pub record AgreeParts (p q : Parts) : Type 0 where
  pub width : p.width ≡ q.width
  pub list : Agree list_names p.list q.list

with_part_agree : {s t : Sized} (p q : Parts) → AgreeSized s t → AgreeParts p q → AgreeParts (with_part s p) (with_part t q)
with_part_agree {s} {t} p q h k = record {
  width = ap (λ (x : Shape). x.width + p.width) (own_agree h) ∙ ap (λ w. (own t).width + w) k.width;
  list =
      bind_agree names_signal list_names (by_itself s) (by_itself t) (λ x. p.list >>= λ xs. Ok (more x xs)) (λ x. q.list >>= λ xs. Ok (more x xs)) (by_itself_agree h)
      (λ x e. bind_agree list_names list_names p.list q.list (λ xs. Ok (more x xs)) (λ xs. Ok (more x xs)) k.list (λ xs f. (refl, both_false _ _ e f)) (λ xs f. right_true _ _ f))
      (λ x e. named_bind list_names p.list (λ xs. Ok (more x xs)) (λ xs. left_true _ _ e));
}

join_self : (l : TypedList) → list_names l ≡ false → AgreeFound (join_found (Ok l)) (join_found (Ok l))
join_self end h = tt
join_self (more x xs) h = (refl, h)

join_agree : (l m : Result TypedList WidthFault) → Agree list_names l m → AgreeFound (join_found l) (join_found m)
join_agree (Ok l) (Ok m) h = subst (λ (z : TypedList). AgreeFound (join_found (Ok l)) (join_found (Ok z))) h.0 (join_self l h.1)
join_agree (Ok end) (Err e) h = tt
join_agree (Ok (more x xs)) (Err e) h = h
join_agree (Err d) (Ok m) h = absurd h
join_agree (Err d) (Err e) h = tt

repeat_self : (n : Option ℤ) (w : ℕ) (l : TypedList) → list_names l ≡ false → AgreeFound (repeat_found n w l) (repeat_found n w l)
repeat_self None w l h = tt
repeat_self (Some n) w end h = tt
repeat_self (Some n) w (more x xs) h =
    let made : Found = Good (node.Repeat (unsigned_abs n) (more x xs)) in
    let fits = cond (nat_lt 64 (unsigned_abs n * w)) (Own TooWide) made in
    on (int_le (pos 1) n) (λ b. AgreeFound (cond b fits (Own ZeroWidth)) (cond b fits (Own ZeroWidth)))
    (on (nat_lt 64 (unsigned_abs n * w)) (λ b. AgreeFound (cond b (Own TooWide) made) (cond b (Own TooWide) made)) tt (refl, h)) tt

repeat_named : (n : Option ℤ) (w : ℕ) (l : TypedList) (e : WidthFault) → list_names l ≡ true → AgreeFound (repeat_found n w l) (Earlier e)
repeat_named None w l e h = tt
repeat_named (Some n) w end e h = tt
repeat_named (Some n) w (more x xs) e h =
    let made : Found = Good (node.Repeat (unsigned_abs n) (more x xs)) in
    let fits = cond (nat_lt 64 (unsigned_abs n * w)) (Own TooWide) made in
    on (int_le (pos 1) n) (λ b. AgreeFound (cond b fits (Own ZeroWidth)) (Earlier e))
    (on (nat_lt 64 (unsigned_abs n * w)) (λ b. AgreeFound (cond b (Own TooWide) made) (Earlier e)) tt h) tt

counted_agree : (x y : Answer) (w : ℕ) (l m : Result TypedList WidthFault) → Agree names_signal x y → Agree list_names l m → AgreeFound (counted_found x w l) (counted_found y w m)
counted_agree (Ok x) (Ok y) w (Ok l) (Ok m) h k =
    subst (λ (z : Typed). AgreeFound (counted_found (Ok x) w (Ok l)) (counted_found (Ok z) w (Ok m))) h.0
    (subst (λ (z : TypedList). AgreeFound (counted_found (Ok x) w (Ok l)) (counted_found (Ok x) w (Ok z))) k.0 (repeat_self (number_of_part (Ok x)) w l k.1))
counted_agree (Ok x) (Ok y) w (Ok l) (Err e) h k = repeat_named (number_of_part (Ok x)) w l e k
counted_agree (Ok x) (Ok y) w (Err d) (Ok m) h k = absurd k
counted_agree (Ok x) (Ok y) w (Err d) (Err e) h k = tt
counted_agree (Ok x) (Err e) w (Ok l) m h k =
    subst (λ b. AgreeFound (repeat_found (cond b None (Some (constant_number x))) w l) (Earlier e)) (sym h) tt
counted_agree (Ok x) (Err e) w (Err d) m h k = tt
counted_agree (Err d) (Ok y) w l m h k = absurd h
counted_agree (Err d) (Err e) w l m h k = tt

repeat_agree : (x y : Answer) (p q : Parts) → Agree names_signal x y → AgreeParts p q → AgreeSized (repeat_sized x p) (repeat_sized y q)
repeat_agree x y p q h k =
    leaf _ _ _ _ (ap (λ (n : Option ℤ). repeat_shape n p.width) (number_agree x y h) ∙ ap (λ w. repeat_shape (number_of_part y) w) k.width)
    (subst (λ w. AgreeFound (counted_found x p.width p.list) (counted_found y w q.list)) k.width (counted_agree x y p.width p.list q.list h k.list))

mutual
  pub sized_agree : (names : Names) (e : Tree) → AgreeSized (sized false names e) (sized true names e)
  sized_agree names (tree.Number n) = leaf _ _ _ _ refl (refl, refl)
  sized_agree names (tree.Name n) = named_agree n (names n)
  sized_agree names (tree.Bit n i) = leaf one_bit one_bit _ _ refl (fault_agrees _ _ (bit_named n (names n) (by_itself (sized false names i))) (bit_fault n (names n) (by_itself (sized true names i))))
  sized_agree names (tree.Part n h l) =
      let high = number_agree _ _ (by_itself_agree (sized_agree names h)) in
      let low = number_agree _ _ (by_itself_agree (sized_agree names l)) in
      leaf _ _ _ _
      (ap (λ (x : Option ℤ). part_shape x (number_of_part (by_itself (sized false names l)))) high
      ∙ ap (λ (x : Option ℤ). part_shape (number_of_part (by_itself (sized true names h))) x) low)
      (fault_agrees _ _ (part_named n (names n) (by_itself (sized false names h)) (by_itself (sized false names l))) (part_fault n (names n) (by_itself (sized true names h)) (by_itself (sized true names l))))
  sized_agree names (tree.Paren e) = sized_agree names e
  sized_agree names (tree.Unary op e) = unary_agree op (sized_agree names e)
  sized_agree names (tree.Binary op a b) = binary_agree (kind_of op) op (sized_agree names a) (sized_agree names b)
  sized_agree names (tree.Choose c a b) = choose _ _ _ _ _ _ (by_itself_agree (sized_agree names c)) (sized_agree names a) (sized_agree names b)
  sized_agree names (tree.Join es) =
      let parts = sized_parts_agree names es in leaf _ _ _ _ (ap (λ w. sized_as w false) parts.width) (join_agree _ _ parts.list)
  sized_agree names (tree.Repeat n es) =
      repeat_agree (by_itself (sized false names n)) (by_itself (sized true names n)) (sized_parts false names es) (sized_parts true names es) (by_itself_agree (sized_agree names n)) (sized_parts_agree names es)
  sized_agree names (tree.Signed e) =
      let part = sized_agree names e in
      leaf _ _ _ _ (ap (λ (o : Shape). sized_as o.width true) (own_agree part)) (above_agree (by_itself (sized false names e)) (by_itself (sized true names e)) node.Sign (λ x. refl) (by_itself_agree part))
  sized_agree names (tree.Unsigned e) =
      let part = sized_agree names e in
      leaf _ _ _ _ (ap (λ (o : Shape). sized_as o.width false) (own_agree part)) (above_agree (by_itself (sized false names e)) (by_itself (sized true names e)) node.Sign (λ x. refl) (by_itself_agree part))

  pub sized_parts_agree : (names : Names) (es : Trees) → AgreeParts (sized_parts false names es) (sized_parts true names es)
  sized_parts_agree names tree.end = record { width = refl; list = (refl, refl) }
  sized_parts_agree names (tree.more x xs) = with_part_agree (sized_parts false names xs) (sized_parts true names xs) (sized_agree names x) (sized_parts_agree names xs)

-- what `constant` types, and what `typed` does
answers_agree : (names : Names) (e : Tree) (width : ℕ)
    → Agree names_signal (typed_answer names e width) (in_context true (sized true names e) (widened_shape (own (sized true names e)) width))
answers_agree names e width =
    let both = sized_agree names e in
    subst (λ (o : Shape). Agree names_signal (typed_answer names e width) (in_context true (sized true names e) (widened_shape o width)))
    (own_agree both) (in_context_agree (widened_shape (own (sized false names e)) width) both)

word_only : (r s : Answer) (w : PlainWord) → Agree names_signal r s → (s >>= λ t. Ok (constant_word t)) ≡ Ok w
    → (t : Typed) × (r ≡ Ok t) × (names_signal t ≡ false) × (constant_word t ≡ w)
word_only (Ok x) (Ok y) w h k = let is : constant_word y ≡ w = cc in (x, refl, h.1, ap constant_word h.0 ∙ is)
word_only (Ok x) (Err e) w h k = cc
word_only (Err d) (Ok y) w h k = absurd h
word_only (Err d) (Err e) w h k = cc

word_all : (r s : Answer) (t : Typed) → Agree names_signal r s → r ≡ Ok t → names_signal t ≡ false → (s >>= λ u. Ok (constant_word u)) ≡ Ok (constant_word t)
word_all (Ok x) (Ok y) t h e f = let is : x ≡ t = cc in ap (λ (z : Typed). Ok (constant_word z)) (sym h.0 ∙ is)
word_all (Ok x) (Err d) t h e f = let is : x ≡ t = cc in cc
word_all (Err d) s t h e f = cc

pub constant_only : (names : Names) (e : Tree) (width : ℕ) (w : PlainWord) → constant_answer names e width ≡ Ok w
    → (t : Typed) × (typed_answer names e width ≡ Ok t) × (names_signal t ≡ false) × (constant_word t ≡ w)
constant_only names e width w h = word_only _ _ w (answers_agree names e width) h

pub constant_all : (names : Names) (e : Tree) (width : ℕ) (t : Typed) → typed_answer names e width ≡ Ok t → names_signal t ≡ false
    → constant_answer names e width ≡ Ok (constant_word t)
constant_all names e width t h f = word_all _ _ t (answers_agree names e width) h f

-- the word of a constant expression is the value of its typed form, whatever the signals are
pub constant_value : (names : Names) (e : Tree) (width : ℕ) (w : PlainWord) → constant_answer names e width ≡ Ok w → HasValue names e width w
constant_value names e width w h =
    let found = constant_only names e width w h in (found.0, found.1, λ signals. same_value signals (λ _. 0) found.0 found.2 ∙ found.3)
