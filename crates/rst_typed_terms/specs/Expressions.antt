-- The terms of a typed expression, by the bits of the signals that it reads, lowest first, over any algebra: the one definition that
-- its gates, its value in two values and its value in three values share.
-- Operands come before operators, left before right, and each operation is asked for where it stands, so the order of the gates is
-- that of the lines.
use Rattle.std.specs.Prelude.{ℕ, zero, suc, ◌^◌, List, [], ◌++◌, length, map, take, drop, if◌then◌else◌}
use Rattle.rst_word.specs.Binary.{binary_word}
use Rattle.rst_width.specs.declared.typed_expr.Shape.{Shape}
use Rattle.rst_width.specs.Typed.{Typed, Node, TypedList, typed, Word, Signal, Slice, Pick, Unary, Binary, Choose, Join, Repeat, Extend, Sign, end, more, shape_of}
use Rattle.rst_width.specs.Values.{constant_word}
use Rattle.rst_terms.specs.declared.kinds.Connective.TheVariants.{Or}
use Rattle.rst_terms.specs.Algebras.{Algebra, Step}
use Rattle.rst_terms.specs.Numbers.{bits_of}
use Rattle.rst_terms.specs.Recurrences.{reduced, chosen, selected}
use Rattle.rst_terms.specs.Operators.{unary_bits, binary_bits, is_division, extended}

-- constant bits ask for nothing
abbrev pub constants : {S X : Type 0} → Algebra S X → ℕ → ℕ → List X
constants A width value = map A.constant (bits_of width value)

-- the bits of a word, this many times
abbrev pub copies : {X : Type 0} → ℕ → List X → List X
copies zero xs = []
copies (suc n) xs = copies n xs ++ xs

abbrev mutual
  -- The bits of an expression, by those of the signals. A place has as many bits as its width.
  pub expression_bits : {S X : Type 0} → Algebra S X → (ℕ → List X) → S → Typed → Step S (List X)
  expression_bits A signals s (typed shape node) = node_bits A signals s shape node

  pub node_bits : {S X : Type 0} → Algebra S X → (ℕ → List X) → S → Shape → Node → Step S (List X)
  node_bits A signals s shape (Word w) = (s, constants A w.width w.value)
  node_bits A signals s shape (Signal i) = (s, signals i)
  node_bits A signals s shape (Slice i low width) = (s, take width (drop low (signals i)))
  -- the index, then the stages over the bits that it can name
  node_bits A signals s shape (Pick i e) =
      let n = expression_bits A signals s e in
      selected A n.0 n.1 (take (2 ^ length n.1) (signals i))
  node_bits A signals s shape (Unary op e) =
      let r = expression_bits A signals s e in
      unary_bits A op r.0 r.1
  -- a quotient or a remainder is a constant word, and its operands ask for nothing
  node_bits A signals s shape (Binary op a b) =
      if is_division op then (s, constants A shape.width (binary_word op (constant_word a) (constant_word b)).value)
      else
      (let l = expression_bits A signals s a in
      let r = expression_bits A signals l.0 b in
      binary_bits A op (shape_of a).signed r.0 l.1 r.1)
  -- the condition, both branches, the `or` of the condition, and then the muxes
  node_bits A signals s shape (Choose c a b) =
      let n = expression_bits A signals s c in
      let t = expression_bits A signals n.0 a in
      let e = expression_bits A signals t.0 b in
      let test = reduced A Or e.0 n.1 in
      chosen A test.0 test.1 t.1 e.1
  node_bits A signals s shape (Join es) = list_bits A signals s es
  -- the parts are made once
  node_bits A signals s shape (Repeat count es) = let r = list_bits A signals s es in (r.0, copies count r.1)
  node_bits A signals s shape (Extend e) =
      let r = expression_bits A signals s e in
      (r.0, extended A shape.signed shape.width r.1)
  node_bits A signals s shape (Sign e) = expression_bits A signals s e

  -- the parts of a join, of which the first is the most significant
  pub list_bits : {S X : Type 0} → Algebra S X → (ℕ → List X) → S → TypedList → Step S (List X)
  list_bits A signals s end = (s, [])
  list_bits A signals s (more x xs) =
      let r = expression_bits A signals s x in
      let rest = list_bits A signals r.0 xs in
      (rest.0, rest.1 ++ r.1)
