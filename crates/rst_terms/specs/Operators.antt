-- The operators of expressions (IEEE 1364-2001, clause 4.1) by the bits of their operands, lowest first.
use Rattle.std.specs.Prelude.{ℕ, ◌-◌, Bool, true, false, List, [], ◌∷◌, ◌++◌, length, map, take, replicate, slice_index_or, if◌then◌else◌}
use Rattle.rst_word.specs.declared.ops.UnaryOp.{UnaryOp}
use Rattle.rst_word.specs.declared.ops.UnaryOp.TheVariants as unary
use Rattle.rst_word.specs.declared.ops.BinaryOp.{BinaryOp}
use Rattle.rst_word.specs.declared.ops.BinaryOp.TheVariants as binary
use Rattle.rst_terms.specs.declared.kinds.Connective.{Connective}
use Rattle.rst_terms.specs.declared.kinds.Connective.TheVariants.{And, Or, Xor}
use Rattle.rst_terms.specs.declared.kinds.Direction.TheVariants.{Up, Down}
use Rattle.rst_terms.specs.Algebras.{Algebra, Step}
use Rattle.rst_terms.specs.Recurrences.{connected, each, reduced, equal, Summed, summed, below, shifted, product}

-- the opposite of an answer
abbrev pub opposite : {S X : Type 0} → Algebra S X → Step S X → Step S X
opposite A r = (r.0, A.negation r.1)

-- a word of one bit
abbrev pub one_bit : {S X : Type 0} → Step S X → Step S (List X)
one_bit r = (r.0, r.1 ∷ [])

abbrev pub sum_bits : {S X : Type 0} → Summed S X → Step S (List X)
sum_bits r = (r.state, r.bits)

-- the top bit, and the word with its top bit inverted
abbrev pub top : {S X : Type 0} → Algebra S X → List X → X
top A xs = slice_index_or xs (length xs - 1) (A.constant false)

abbrev pub top_inverted : {S X : Type 0} → Algebra S X → List X → List X
top_inverted A xs = take (length xs - 1) xs ++ A.negation (top A xs) ∷ []

-- a word at a larger width: the new bits copy the top bit where the extension is signed, and are 0 where it is not
abbrev pub extended : {S X : Type 0} → Algebra S X → Bool → ℕ → List X → List X
extended A signed width xs = xs ++ replicate (width - length xs) (if signed then top A xs else A.constant false)

-- a < b. Where the operands are signed both top bits are inverted first.
abbrev pub less : {S X : Type 0} → Algebra S X → Bool → S → List X → List X → Step S X
less A signed s xs ys =
    if signed then below A s (A.constant false) (top_inverted A xs) (top_inverted A ys)
    else below A s (A.constant false) xs ys

-- `&&` and `||`: the `or` of the left word, that of the right one, and then both
abbrev pub decided : {S X : Type 0} → Algebra S X → Connective → S → List X → List X → Step S (List X)
decided A op s xs ys =
    let l = reduced A Or s xs in
    let r = reduced A Or l.0 ys in
    one_bit (connected A op r.0 l.1 r.1)

abbrev pub unary_bits : {S X : Type 0} → Algebra S X → UnaryOp → S → List X → Step S (List X)
unary_bits A unary.Plus s xs = (s, xs)
unary_bits A unary.Minus s xs = sum_bits (summed A s (A.constant true) (replicate (length xs) (A.constant false)) (map A.negation xs))
unary_bits A unary.Not s xs = one_bit (opposite A (reduced A Or s xs))
unary_bits A unary.Invert s xs = (s, map A.negation xs)
unary_bits A unary.And s xs = one_bit (reduced A And s xs)
unary_bits A unary.Nand s xs = one_bit (opposite A (reduced A And s xs))
unary_bits A unary.Or s xs = one_bit (reduced A Or s xs)
unary_bits A unary.Nor s xs = one_bit (opposite A (reduced A Or s xs))
unary_bits A unary.Xor s xs = one_bit (reduced A Xor s xs)
unary_bits A unary.Xnor s xs = one_bit (opposite A (reduced A Xor s xs))

-- `/` and `%` have constant operands, and so are constant words themselves, which ask for nothing.
abbrev pub is_division : BinaryOp → Bool
is_division binary.Div = true
is_division binary.Rem = true
is_division _ = false

-- Comparisons read their operands as signed, and `>>>` copies the top bit of the first, where `signed` is true. Not for `/` and `%`.
abbrev pub binary_bits : {S X : Type 0} → Algebra S X → BinaryOp → Bool → S → List X → List X → Step S (List X)
binary_bits A binary.Mul signed s xs ys = product A s xs ys
binary_bits A binary.Div signed s xs ys = (s, [])
binary_bits A binary.Rem signed s xs ys = (s, [])
binary_bits A binary.Add signed s xs ys = sum_bits (summed A s (A.constant false) xs ys)
binary_bits A binary.Sub signed s xs ys = sum_bits (summed A s (A.constant true) xs (map A.negation ys))
binary_bits A binary.Shl signed s xs ys = shifted Up A s (A.constant false) 1 ys xs
binary_bits A binary.Shr signed s xs ys = shifted Down A s (A.constant false) 1 ys xs
binary_bits A binary.ArithShl signed s xs ys = shifted Up A s (A.constant false) 1 ys xs
binary_bits A binary.ArithShr signed s xs ys = shifted Down A s (if signed then top A xs else A.constant false) 1 ys xs
binary_bits A binary.Lt signed s xs ys = one_bit (less A signed s xs ys)
binary_bits A binary.Le signed s xs ys = one_bit (opposite A (less A signed s ys xs))
binary_bits A binary.Gt signed s xs ys = one_bit (less A signed s ys xs)
binary_bits A binary.Ge signed s xs ys = one_bit (opposite A (less A signed s xs ys))
binary_bits A binary.Eq signed s xs ys = one_bit (equal A s xs ys)
binary_bits A binary.Ne signed s xs ys = one_bit (opposite A (equal A s xs ys))
binary_bits A binary.And signed s xs ys = each A And s xs ys
binary_bits A binary.Xor signed s xs ys = each A Xor s xs ys
binary_bits A binary.Xnor signed s xs ys = let r = each A Xor s xs ys in (r.0, map A.negation r.1)
binary_bits A binary.Or signed s xs ys = each A Or s xs ys
binary_bits A binary.LogicAnd signed s xs ys = decided A And s xs ys
binary_bits A binary.LogicOr signed s xs ys = decided A Or s xs ys
