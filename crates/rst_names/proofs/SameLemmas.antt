-- The test of trees tells equality.
use Rattle.std.proofs.Common.{◌≡◌, ℕ, ◌^◌, ◌<◌, ◌≤◌, bit_and, nat_eq, Bool, true, false, ◌&&◌, List, [], ◌∷◌, get_or, Option, Some, None, refl, sym, ap, ◌∙◌, arith}
use Rattle.std.proofs.Math.Path.{to_path_p, PathP}
use Rattle.std.proofs.Props.{props}
use Rattle.std.specs.Bool.{Decides}
use Rattle.std.proofs.lemmas.Bool.Decides.{nat_tests, same_from_decides}
use Rattle.std.specs.Cmp.Lexicographic.{bytes_decides}
use Rattle.rst_lex.specs.declared.token.Literal.{Literal}
use Rattle.rst_word.specs.declared.ops.UnaryOp.{UnaryOp}
use Rattle.rst_word.specs.declared.ops.UnaryOp.TheVariants as unary
use Rattle.rst_word.specs.declared.ops.BinaryOp.{BinaryOp}
use Rattle.rst_word.specs.declared.ops.BinaryOp.TheVariants as binary
use Rattle.rst_tree.specs.Trees.{Text, Tree, Trees}
use Rattle.rst_tree.specs.Trees as tree
use Rattle.rst_tree.specs.Modules.{PlainRange}
use Rattle.rst_names.specs.Names.{same_text}
use Rattle.rst_names.specs.SameTrees.{unary_number, binary_number, same_bool, same_literal, same_tree, same_trees, same_range}
use Rattle.rst_names.proofs.TableLemmas.{one_text}

not_true : false ≡ true → ⊥
not_true e = cc

both : (a b : Bool) → (a && b) ≡ true → (a ≡ true) × (b ≡ true)
both true b h = (refl, h)
both false b h = absurd (not_true h)

two : {A B C : Type 0} (f : A → B → C) {a b : A} {c d : B} → a ≡ b → c ≡ d → f a c ≡ f b d
two f {a} {b} {c} {d} p q = ap (λ x. f x c) p ∙ ap (f b) q

three : {A B C D : Type 0} (f : A → B → C → D) {a b : A} {c d : B} {e g : C} → a ≡ b → c ≡ d → e ≡ g → f a c e ≡ f b d g
three f {a} {b} {c} {d} {e} {g} p q r = ap (λ x. f x c e) p ∙ two (f b) q r

one_number : (a b : ℕ) → nat_eq a b ≡ true → a ≡ b
one_number a b h = grind (arith, nat_tests)

same_number : (a : ℕ) → nat_eq a a ≡ true
same_number a = grind (arith, nat_tests)

one_bool : (a b : Bool) → same_bool a b ≡ true → a ≡ b
one_bool true true h = refl
one_bool true false h = absurd (not_true h)
one_bool false true h = absurd (not_true h)
one_bool false false h = refl

-- two proofs of one of the facts beside a literal's fields
along : (A : 𝕀 → Type 0) → IsProp (A 1) → (a : A 0) (b : A 1) → PathP A a b
along A prop a b = to_path_p A (prop (coe 0 1 (k. A k) a) b)

alike_literals : (l m : Literal) → l.width ≡ m.width → l.signed ≡ m.signed → l.value ≡ m.value → l.mask ≡ m.mask → l ≡ m
alike_literals l m w s v k =
    let not_empty : PathP (λ i. 1 ≤ w i) l.not_empty m.not_empty = along (λ i. 1 ≤ w i) (hlevel props) l.not_empty m.not_empty in
    let in_word : PathP (λ i. w i ≤ 64) l.in_word m.in_word = along (λ i. w i ≤ 64) (hlevel props) l.in_word m.in_word in
    let value_fits : PathP (λ i. v i < 2 ^ w i) l.value_fits m.value_fits = along (λ i. v i < 2 ^ w i) (hlevel props) l.value_fits m.value_fits in
    let mask_fits : PathP (λ i. k i < 2 ^ w i) l.mask_fits m.mask_fits = along (λ i. k i < 2 ^ w i) (hlevel props) l.mask_fits m.mask_fits in
    let masked : PathP (λ i. bit_and (v i) (k i) ≡ 0) l.masked_are_zero m.masked_are_zero = along (λ i. bit_and (v i) (k i) ≡ 0) (hlevel props) l.masked_are_zero m.masked_are_zero in
    λ i. record { width = w i; signed = s i; value = v i; mask = k i; not_empty = not_empty i; in_word = in_word i; value_fits = value_fits i; mask_fits = mask_fits i; masked_are_zero = masked i }

one_literal : (a b : Literal) → same_literal a b ≡ true → a ≡ b
one_literal a b h =
    let k = both (nat_eq a.width b.width) (same_bool a.signed b.signed && (nat_eq a.value b.value && nat_eq a.mask b.mask)) h in
    let l = both (same_bool a.signed b.signed) (nat_eq a.value b.value && nat_eq a.mask b.mask) k.1 in
    let m = both (nat_eq a.value b.value) (nat_eq a.mask b.mask) l.1 in
    alike_literals a b (one_number a.width b.width k.0) (one_bool a.signed b.signed l.0) (one_number a.value b.value m.0) (one_number a.mask b.mask m.1)

-- the operators in the order of their numbers
abbrev unary_row : List UnaryOp
unary_row = unary.Plus ∷ unary.Minus ∷ unary.Not ∷ unary.Invert ∷ unary.And ∷ unary.Nand ∷ unary.Or ∷ unary.Nor ∷ unary.Xor ∷ unary.Xnor ∷ []

abbrev unary_of : ℕ → UnaryOp
unary_of n = get_or unary_row n unary.Plus

unary_again : (o : UnaryOp) → unary_of (unary_number o) ≡ o
unary_again unary.Plus = refl
unary_again unary.Minus = refl
unary_again unary.Not = refl
unary_again unary.Invert = refl
unary_again unary.And = refl
unary_again unary.Nand = refl
unary_again unary.Or = refl
unary_again unary.Nor = refl
unary_again unary.Xor = refl
unary_again unary.Xnor = refl

one_unary : (o p : UnaryOp) → nat_eq (unary_number o) (unary_number p) ≡ true → o ≡ p
one_unary o p h = sym (unary_again o) ∙ ap unary_of (one_number (unary_number o) (unary_number p) h) ∙ unary_again p

-- the operators in the order of their numbers
abbrev binary_row : List BinaryOp
binary_row = binary.Mul ∷ binary.Div ∷ binary.Rem ∷ binary.Add ∷ binary.Sub ∷ binary.Shl ∷ binary.Shr ∷ binary.ArithShl ∷ binary.ArithShr ∷ binary.Lt ∷ binary.Le ∷ binary.Gt ∷ binary.Ge ∷ binary.Eq ∷ binary.Ne ∷ binary.And ∷ binary.Xor ∷ binary.Xnor ∷ binary.Or ∷ binary.LogicAnd ∷ binary.LogicOr ∷ []

abbrev binary_of : ℕ → BinaryOp
binary_of n = get_or binary_row n binary.Mul

binary_again : (o : BinaryOp) → binary_of (binary_number o) ≡ o
binary_again binary.Mul = refl
binary_again binary.Div = refl
binary_again binary.Rem = refl
binary_again binary.Add = refl
binary_again binary.Sub = refl
binary_again binary.Shl = refl
binary_again binary.Shr = refl
binary_again binary.ArithShl = refl
binary_again binary.ArithShr = refl
binary_again binary.Lt = refl
binary_again binary.Le = refl
binary_again binary.Gt = refl
binary_again binary.Ge = refl
binary_again binary.Eq = refl
binary_again binary.Ne = refl
binary_again binary.And = refl
binary_again binary.Xor = refl
binary_again binary.Xnor = refl
binary_again binary.Or = refl
binary_again binary.LogicAnd = refl
binary_again binary.LogicOr = refl

one_binary : (o p : BinaryOp) → nat_eq (binary_number o) (binary_number p) ≡ true → o ≡ p
one_binary o p h = sym (binary_again o) ∙ ap binary_of (one_number (binary_number o) (binary_number p) h) ∙ binary_again p

mutual
  pub one_tree : (a b : Tree) → same_tree a b ≡ true → a ≡ b
  one_tree (tree.Number a0) (tree.Number b0) h = ap tree.Number (one_literal a0 b0 h)
  one_tree (tree.Number a0) (tree.Name b0) h = absurd (not_true h)
  one_tree (tree.Number a0) (tree.Bit b0 b1) h = absurd (not_true h)
  one_tree (tree.Number a0) (tree.Part b0 b1 b2) h = absurd (not_true h)
  one_tree (tree.Number a0) (tree.Paren b0) h = absurd (not_true h)
  one_tree (tree.Number a0) (tree.Unary b0 b1) h = absurd (not_true h)
  one_tree (tree.Number a0) (tree.Binary b0 b1 b2) h = absurd (not_true h)
  one_tree (tree.Number a0) (tree.Choose b0 b1 b2) h = absurd (not_true h)
  one_tree (tree.Number a0) (tree.Join b0) h = absurd (not_true h)
  one_tree (tree.Number a0) (tree.Repeat b0 b1) h = absurd (not_true h)
  one_tree (tree.Number a0) (tree.Signed b0) h = absurd (not_true h)
  one_tree (tree.Number a0) (tree.Unsigned b0) h = absurd (not_true h)
  one_tree (tree.Name a0) (tree.Number b0) h = absurd (not_true h)
  one_tree (tree.Name a0) (tree.Name b0) h = ap tree.Name (one_text a0 b0 h)
  one_tree (tree.Name a0) (tree.Bit b0 b1) h = absurd (not_true h)
  one_tree (tree.Name a0) (tree.Part b0 b1 b2) h = absurd (not_true h)
  one_tree (tree.Name a0) (tree.Paren b0) h = absurd (not_true h)
  one_tree (tree.Name a0) (tree.Unary b0 b1) h = absurd (not_true h)
  one_tree (tree.Name a0) (tree.Binary b0 b1 b2) h = absurd (not_true h)
  one_tree (tree.Name a0) (tree.Choose b0 b1 b2) h = absurd (not_true h)
  one_tree (tree.Name a0) (tree.Join b0) h = absurd (not_true h)
  one_tree (tree.Name a0) (tree.Repeat b0 b1) h = absurd (not_true h)
  one_tree (tree.Name a0) (tree.Signed b0) h = absurd (not_true h)
  one_tree (tree.Name a0) (tree.Unsigned b0) h = absurd (not_true h)
  one_tree (tree.Bit a0 a1) (tree.Number b0) h = absurd (not_true h)
  one_tree (tree.Bit a0 a1) (tree.Name b0) h = absurd (not_true h)
  one_tree (tree.Bit a0 a1) (tree.Bit b0 b1) h =
      let k = both (same_text a0 b0) (same_tree a1 b1) h in
      two tree.Bit (one_text a0 b0 k.0) (one_tree a1 b1 k.1)
  one_tree (tree.Bit a0 a1) (tree.Part b0 b1 b2) h = absurd (not_true h)
  one_tree (tree.Bit a0 a1) (tree.Paren b0) h = absurd (not_true h)
  one_tree (tree.Bit a0 a1) (tree.Unary b0 b1) h = absurd (not_true h)
  one_tree (tree.Bit a0 a1) (tree.Binary b0 b1 b2) h = absurd (not_true h)
  one_tree (tree.Bit a0 a1) (tree.Choose b0 b1 b2) h = absurd (not_true h)
  one_tree (tree.Bit a0 a1) (tree.Join b0) h = absurd (not_true h)
  one_tree (tree.Bit a0 a1) (tree.Repeat b0 b1) h = absurd (not_true h)
  one_tree (tree.Bit a0 a1) (tree.Signed b0) h = absurd (not_true h)
  one_tree (tree.Bit a0 a1) (tree.Unsigned b0) h = absurd (not_true h)
  one_tree (tree.Part a0 a1 a2) (tree.Number b0) h = absurd (not_true h)
  one_tree (tree.Part a0 a1 a2) (tree.Name b0) h = absurd (not_true h)
  one_tree (tree.Part a0 a1 a2) (tree.Bit b0 b1) h = absurd (not_true h)
  one_tree (tree.Part a0 a1 a2) (tree.Part b0 b1 b2) h =
      let k = both (same_text a0 b0) (same_tree a1 b1 && same_tree a2 b2) h in
      let l = both (same_tree a1 b1) (same_tree a2 b2) k.1 in
      three tree.Part (one_text a0 b0 k.0) (one_tree a1 b1 l.0) (one_tree a2 b2 l.1)
  one_tree (tree.Part a0 a1 a2) (tree.Paren b0) h = absurd (not_true h)
  one_tree (tree.Part a0 a1 a2) (tree.Unary b0 b1) h = absurd (not_true h)
  one_tree (tree.Part a0 a1 a2) (tree.Binary b0 b1 b2) h = absurd (not_true h)
  one_tree (tree.Part a0 a1 a2) (tree.Choose b0 b1 b2) h = absurd (not_true h)
  one_tree (tree.Part a0 a1 a2) (tree.Join b0) h = absurd (not_true h)
  one_tree (tree.Part a0 a1 a2) (tree.Repeat b0 b1) h = absurd (not_true h)
  one_tree (tree.Part a0 a1 a2) (tree.Signed b0) h = absurd (not_true h)
  one_tree (tree.Part a0 a1 a2) (tree.Unsigned b0) h = absurd (not_true h)
  one_tree (tree.Paren a0) (tree.Number b0) h = absurd (not_true h)
  one_tree (tree.Paren a0) (tree.Name b0) h = absurd (not_true h)
  one_tree (tree.Paren a0) (tree.Bit b0 b1) h = absurd (not_true h)
  one_tree (tree.Paren a0) (tree.Part b0 b1 b2) h = absurd (not_true h)
  one_tree (tree.Paren a0) (tree.Paren b0) h = ap tree.Paren (one_tree a0 b0 h)
  one_tree (tree.Paren a0) (tree.Unary b0 b1) h = absurd (not_true h)
  one_tree (tree.Paren a0) (tree.Binary b0 b1 b2) h = absurd (not_true h)
  one_tree (tree.Paren a0) (tree.Choose b0 b1 b2) h = absurd (not_true h)
  one_tree (tree.Paren a0) (tree.Join b0) h = absurd (not_true h)
  one_tree (tree.Paren a0) (tree.Repeat b0 b1) h = absurd (not_true h)
  one_tree (tree.Paren a0) (tree.Signed b0) h = absurd (not_true h)
  one_tree (tree.Paren a0) (tree.Unsigned b0) h = absurd (not_true h)
  one_tree (tree.Unary a0 a1) (tree.Number b0) h = absurd (not_true h)
  one_tree (tree.Unary a0 a1) (tree.Name b0) h = absurd (not_true h)
  one_tree (tree.Unary a0 a1) (tree.Bit b0 b1) h = absurd (not_true h)
  one_tree (tree.Unary a0 a1) (tree.Part b0 b1 b2) h = absurd (not_true h)
  one_tree (tree.Unary a0 a1) (tree.Paren b0) h = absurd (not_true h)
  one_tree (tree.Unary a0 a1) (tree.Unary b0 b1) h =
      let k = both (nat_eq (unary_number a0) (unary_number b0)) (same_tree a1 b1) h in
      two tree.Unary (one_unary a0 b0 k.0) (one_tree a1 b1 k.1)
  one_tree (tree.Unary a0 a1) (tree.Binary b0 b1 b2) h = absurd (not_true h)
  one_tree (tree.Unary a0 a1) (tree.Choose b0 b1 b2) h = absurd (not_true h)
  one_tree (tree.Unary a0 a1) (tree.Join b0) h = absurd (not_true h)
  one_tree (tree.Unary a0 a1) (tree.Repeat b0 b1) h = absurd (not_true h)
  one_tree (tree.Unary a0 a1) (tree.Signed b0) h = absurd (not_true h)
  one_tree (tree.Unary a0 a1) (tree.Unsigned b0) h = absurd (not_true h)
  one_tree (tree.Binary a0 a1 a2) (tree.Number b0) h = absurd (not_true h)
  one_tree (tree.Binary a0 a1 a2) (tree.Name b0) h = absurd (not_true h)
  one_tree (tree.Binary a0 a1 a2) (tree.Bit b0 b1) h = absurd (not_true h)
  one_tree (tree.Binary a0 a1 a2) (tree.Part b0 b1 b2) h = absurd (not_true h)
  one_tree (tree.Binary a0 a1 a2) (tree.Paren b0) h = absurd (not_true h)
  one_tree (tree.Binary a0 a1 a2) (tree.Unary b0 b1) h = absurd (not_true h)
  one_tree (tree.Binary a0 a1 a2) (tree.Binary b0 b1 b2) h =
      let k = both (nat_eq (binary_number a0) (binary_number b0)) (same_tree a1 b1 && same_tree a2 b2) h in
      let l = both (same_tree a1 b1) (same_tree a2 b2) k.1 in
      three tree.Binary (one_binary a0 b0 k.0) (one_tree a1 b1 l.0) (one_tree a2 b2 l.1)
  one_tree (tree.Binary a0 a1 a2) (tree.Choose b0 b1 b2) h = absurd (not_true h)
  one_tree (tree.Binary a0 a1 a2) (tree.Join b0) h = absurd (not_true h)
  one_tree (tree.Binary a0 a1 a2) (tree.Repeat b0 b1) h = absurd (not_true h)
  one_tree (tree.Binary a0 a1 a2) (tree.Signed b0) h = absurd (not_true h)
  one_tree (tree.Binary a0 a1 a2) (tree.Unsigned b0) h = absurd (not_true h)
  one_tree (tree.Choose a0 a1 a2) (tree.Number b0) h = absurd (not_true h)
  one_tree (tree.Choose a0 a1 a2) (tree.Name b0) h = absurd (not_true h)
  one_tree (tree.Choose a0 a1 a2) (tree.Bit b0 b1) h = absurd (not_true h)
  one_tree (tree.Choose a0 a1 a2) (tree.Part b0 b1 b2) h = absurd (not_true h)
  one_tree (tree.Choose a0 a1 a2) (tree.Paren b0) h = absurd (not_true h)
  one_tree (tree.Choose a0 a1 a2) (tree.Unary b0 b1) h = absurd (not_true h)
  one_tree (tree.Choose a0 a1 a2) (tree.Binary b0 b1 b2) h = absurd (not_true h)
  one_tree (tree.Choose a0 a1 a2) (tree.Choose b0 b1 b2) h =
      let k = both (same_tree a0 b0) (same_tree a1 b1 && same_tree a2 b2) h in
      let l = both (same_tree a1 b1) (same_tree a2 b2) k.1 in
      three tree.Choose (one_tree a0 b0 k.0) (one_tree a1 b1 l.0) (one_tree a2 b2 l.1)
  one_tree (tree.Choose a0 a1 a2) (tree.Join b0) h = absurd (not_true h)
  one_tree (tree.Choose a0 a1 a2) (tree.Repeat b0 b1) h = absurd (not_true h)
  one_tree (tree.Choose a0 a1 a2) (tree.Signed b0) h = absurd (not_true h)
  one_tree (tree.Choose a0 a1 a2) (tree.Unsigned b0) h = absurd (not_true h)
  one_tree (tree.Join a0) (tree.Number b0) h = absurd (not_true h)
  one_tree (tree.Join a0) (tree.Name b0) h = absurd (not_true h)
  one_tree (tree.Join a0) (tree.Bit b0 b1) h = absurd (not_true h)
  one_tree (tree.Join a0) (tree.Part b0 b1 b2) h = absurd (not_true h)
  one_tree (tree.Join a0) (tree.Paren b0) h = absurd (not_true h)
  one_tree (tree.Join a0) (tree.Unary b0 b1) h = absurd (not_true h)
  one_tree (tree.Join a0) (tree.Binary b0 b1 b2) h = absurd (not_true h)
  one_tree (tree.Join a0) (tree.Choose b0 b1 b2) h = absurd (not_true h)
  one_tree (tree.Join a0) (tree.Join b0) h = ap tree.Join (one_trees a0 b0 h)
  one_tree (tree.Join a0) (tree.Repeat b0 b1) h = absurd (not_true h)
  one_tree (tree.Join a0) (tree.Signed b0) h = absurd (not_true h)
  one_tree (tree.Join a0) (tree.Unsigned b0) h = absurd (not_true h)
  one_tree (tree.Repeat a0 a1) (tree.Number b0) h = absurd (not_true h)
  one_tree (tree.Repeat a0 a1) (tree.Name b0) h = absurd (not_true h)
  one_tree (tree.Repeat a0 a1) (tree.Bit b0 b1) h = absurd (not_true h)
  one_tree (tree.Repeat a0 a1) (tree.Part b0 b1 b2) h = absurd (not_true h)
  one_tree (tree.Repeat a0 a1) (tree.Paren b0) h = absurd (not_true h)
  one_tree (tree.Repeat a0 a1) (tree.Unary b0 b1) h = absurd (not_true h)
  one_tree (tree.Repeat a0 a1) (tree.Binary b0 b1 b2) h = absurd (not_true h)
  one_tree (tree.Repeat a0 a1) (tree.Choose b0 b1 b2) h = absurd (not_true h)
  one_tree (tree.Repeat a0 a1) (tree.Join b0) h = absurd (not_true h)
  one_tree (tree.Repeat a0 a1) (tree.Repeat b0 b1) h =
      let k = both (same_tree a0 b0) (same_trees a1 b1) h in
      two tree.Repeat (one_tree a0 b0 k.0) (one_trees a1 b1 k.1)
  one_tree (tree.Repeat a0 a1) (tree.Signed b0) h = absurd (not_true h)
  one_tree (tree.Repeat a0 a1) (tree.Unsigned b0) h = absurd (not_true h)
  one_tree (tree.Signed a0) (tree.Number b0) h = absurd (not_true h)
  one_tree (tree.Signed a0) (tree.Name b0) h = absurd (not_true h)
  one_tree (tree.Signed a0) (tree.Bit b0 b1) h = absurd (not_true h)
  one_tree (tree.Signed a0) (tree.Part b0 b1 b2) h = absurd (not_true h)
  one_tree (tree.Signed a0) (tree.Paren b0) h = absurd (not_true h)
  one_tree (tree.Signed a0) (tree.Unary b0 b1) h = absurd (not_true h)
  one_tree (tree.Signed a0) (tree.Binary b0 b1 b2) h = absurd (not_true h)
  one_tree (tree.Signed a0) (tree.Choose b0 b1 b2) h = absurd (not_true h)
  one_tree (tree.Signed a0) (tree.Join b0) h = absurd (not_true h)
  one_tree (tree.Signed a0) (tree.Repeat b0 b1) h = absurd (not_true h)
  one_tree (tree.Signed a0) (tree.Signed b0) h = ap tree.Signed (one_tree a0 b0 h)
  one_tree (tree.Signed a0) (tree.Unsigned b0) h = absurd (not_true h)
  one_tree (tree.Unsigned a0) (tree.Number b0) h = absurd (not_true h)
  one_tree (tree.Unsigned a0) (tree.Name b0) h = absurd (not_true h)
  one_tree (tree.Unsigned a0) (tree.Bit b0 b1) h = absurd (not_true h)
  one_tree (tree.Unsigned a0) (tree.Part b0 b1 b2) h = absurd (not_true h)
  one_tree (tree.Unsigned a0) (tree.Paren b0) h = absurd (not_true h)
  one_tree (tree.Unsigned a0) (tree.Unary b0 b1) h = absurd (not_true h)
  one_tree (tree.Unsigned a0) (tree.Binary b0 b1 b2) h = absurd (not_true h)
  one_tree (tree.Unsigned a0) (tree.Choose b0 b1 b2) h = absurd (not_true h)
  one_tree (tree.Unsigned a0) (tree.Join b0) h = absurd (not_true h)
  one_tree (tree.Unsigned a0) (tree.Repeat b0 b1) h = absurd (not_true h)
  one_tree (tree.Unsigned a0) (tree.Signed b0) h = absurd (not_true h)
  one_tree (tree.Unsigned a0) (tree.Unsigned b0) h = ap tree.Unsigned (one_tree a0 b0 h)

  pub one_trees : (a b : Trees) → same_trees a b ≡ true → a ≡ b
  one_trees tree.end tree.end h = refl
  one_trees tree.end (tree.more b0 b1) h = absurd (not_true h)
  one_trees (tree.more a0 a1) tree.end h = absurd (not_true h)
  one_trees (tree.more a0 a1) (tree.more b0 b1) h =
      let k = both (same_tree a0 b0) (same_trees a1 b1) h in
      two tree.more (one_tree a0 b0 k.0) (one_trees a1 b1 k.1)

all_true : {a b : Bool} → a ≡ true → b ≡ true → (a && b) ≡ true
all_true {a} {b} p q = rw (p, q) refl

itself_bool : (a : Bool) → same_bool a a ≡ true
itself_bool true = refl
itself_bool false = refl

itself_text : (a : Text) → same_text a a ≡ true
itself_text a = (bytes_decides a a).1 refl

itself_literal : (a : Literal) → same_literal a a ≡ true
itself_literal a = all_true (same_number a.width) (all_true (itself_bool a.signed) (all_true (same_number a.value) (same_number a.mask)))

mutual
  pub itself : (a : Tree) → same_tree a a ≡ true
  itself (tree.Number a0) = itself_literal a0
  itself (tree.Name a0) = itself_text a0
  itself (tree.Bit a0 a1) = all_true (itself_text a0) (itself a1)
  itself (tree.Part a0 a1 a2) = all_true (itself_text a0) (all_true (itself a1) (itself a2))
  itself (tree.Paren a0) = itself a0
  itself (tree.Unary a0 a1) = all_true (same_number (unary_number a0)) (itself a1)
  itself (tree.Binary a0 a1 a2) = all_true (same_number (binary_number a0)) (all_true (itself a1) (itself a2))
  itself (tree.Choose a0 a1 a2) = all_true (itself a0) (all_true (itself a1) (itself a2))
  itself (tree.Join a0) = all_themselves a0
  itself (tree.Repeat a0 a1) = all_true (itself a0) (all_themselves a1)
  itself (tree.Signed a0) = itself a0
  itself (tree.Unsigned a0) = itself a0

  pub all_themselves : (a : Trees) → same_trees a a ≡ true
  all_themselves tree.end = refl
  all_themselves (tree.more a0 a1) = all_true (itself a0) (all_themselves a1)

pub same_tree-decides : (a b : Tree) → Decides (same_tree a b) (a ≡ b)
same_tree-decides a b = (one_tree a b, λ is. ap (same_tree a) (sym is) ∙ itself a)

abbrev ranged : Tree → Tree → Option PlainRange
ranged high low = Some (record { high = high; low = low })

one_range : (r s : Option PlainRange) → same_range r s ≡ true → r ≡ s
one_range None None h = refl
one_range None (Some s) h = absurd (not_true h)
one_range (Some r) None h = absurd (not_true h)
one_range (Some r) (Some s) h =
    let k = both (same_tree r.high s.high) (same_tree r.low s.low) h in
    two ranged (one_tree r.high s.high k.0) (one_tree r.low s.low k.1)

itself_range : (r : Option PlainRange) → same_range r r ≡ true
itself_range None = refl
itself_range (Some r) = all_true (itself r.high) (itself r.low)

pub same_range-decides : (r s : Option PlainRange) → Decides (same_range r s) (r ≡ s)
same_range-decides r s = (one_range r s, λ is. ap (same_range r) (sym is) ∙ itself_range r)

-- a test that tells equality answers as the definition does
pub same_from : (t : Bool) (r s : Option PlainRange) → Decides t (r ≡ s) → t ≡ same_range r s
same_from t r s d = same_from_decides t (same_range r s) d (same_range-decides r s)
