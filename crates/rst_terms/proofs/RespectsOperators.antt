-- The operators of expressions in two algebras whose operations respect a relation.
use Rattle.std.proofs.Common.{ℕ, zero, suc, ◌-◌, Bool, true, false, List, [], ◌∷◌, length, map, replicate, take, get_or, cond, subst}
use Rattle.std.specs.List.{AllZip}
use Rattle.rst_word.specs.declared.ops.UnaryOp.{UnaryOp}
use Rattle.rst_word.specs.declared.ops.UnaryOp.TheVariants as unary
use Rattle.rst_word.specs.declared.ops.BinaryOp.{BinaryOp}
use Rattle.rst_word.specs.declared.ops.BinaryOp.TheVariants as binary
use Rattle.rst_terms.specs.declared.kinds.Connective.TheVariants.{And, Or, Xor}
use Rattle.rst_terms.specs.declared.kinds.Direction.TheVariants.{Up, Down}
use Rattle.rst_terms.specs.Algebras.{Algebra, Step}
use Rattle.rst_terms.specs.Recurrences.{each, reduced}
use Rattle.rst_terms.specs.Operators.{unary_bits, binary_bits, extended, top, top_inverted, less}
use Rattle.rst_terms.proofs.Respects.{Respects, same_length}
use Rattle.rst_terms.proofs.Respects as law
use Rattle.rst_terms.proofs.RespectsMoves as move

module _ {S T X Y : Type 0} (Good : S → Type 0) (R : X → Y → Type 0) (A : Algebra S X) (B : Algebra T Y) (r : Respects Good R A B) where
  -- the bit at a place
  place_related : (xs : List X) (us : List Y) (n : ℕ) → AllZip R xs us → R (get_or xs n (A.constant false)) (get_or us n (B.constant false))
  place_related [] [] n p = r.constant false
  place_related [] (u ∷ us) n p = absurd p
  place_related (x ∷ xs) [] n p = absurd p
  place_related (x ∷ xs) (u ∷ us) zero p = p.0
  place_related (x ∷ xs) (u ∷ us) (suc n) p = place_related xs us n p.1

  pub top_related : (xs : List X) (us : List Y) → AllZip R xs us → R (top A xs) (top B us)
  top_related xs us p =
      subst (λ n. R (top A xs) (get_or us (n - 1) (B.constant false))) (same_length R xs us p) (place_related xs us (length xs - 1) p)

  top_inverted_related : (xs : List X) (us : List Y) → AllZip R xs us → AllZip R (top_inverted A xs) (top_inverted B us)
  top_inverted_related xs us p =
      law.zip_append Good R A B r (take (length xs - 1) xs) (A.negation (top A xs) ∷ []) (take (length us - 1) us) (B.negation (top B us) ∷ [])
      (subst (λ n. AllZip R (take (length xs - 1) xs) (take (n - 1) us)) (same_length R xs us p) (law.zip_take Good R A B r (length xs - 1) xs us p))
      (r.negation (top A xs) (top B us) (top_related xs us p), tt)

  fill_related : (signed : Bool) (xs : List X) (us : List Y) → AllZip R xs us → R (cond signed (top A xs) (A.constant false)) (cond signed (top B us) (B.constant false))
  fill_related true xs us p = top_related xs us p
  fill_related false xs us p = r.constant false

  pub extended_related :
      (signed : Bool) (width : ℕ) (xs : List X) (us : List Y) → AllZip R xs us → AllZip R (extended A signed width xs) (extended B signed width us)
  extended_related signed width xs us p =
      law.zip_append Good R A B r xs (replicate (width - length xs) (cond signed (top A xs) (A.constant false)))
      us (replicate (width - length us) (cond signed (top B us) (B.constant false))) p
      (subst (λ n. AllZip R (replicate (width - length xs) (cond signed (top A xs) (A.constant false))) (replicate (width - n) (cond signed (top B us) (B.constant false))))
      (same_length R xs us p)
      (law.replicate_related Good R A B r (width - length xs) (cond signed (top A xs) (A.constant false)) (cond signed (top B us) (B.constant false)) (fill_related signed xs us p)))

  less_good : (signed : Bool) (xs ys : List X) (s : S) → Good (less A signed s xs ys).0 → Good s
  less_good true xs ys s g = law.below_good Good R A B r (top_inverted A xs) (top_inverted A ys) s (A.constant false) g
  less_good false xs ys s g = law.below_good Good R A B r xs ys s (A.constant false) g

  less_related :
      (signed : Bool) (xs ys : List X) (us ws : List Y) (s : S) (t : T) → Good (less A signed s xs ys).0 → AllZip R xs us → AllZip R ys ws
      → R (less A signed s xs ys).1 (less B signed t us ws).1
  less_related true xs ys us ws s t g p q =
      law.below_related Good R A B r (top_inverted A xs) (top_inverted A ys) (top_inverted B us) (top_inverted B ws) s t (A.constant false) (B.constant false) g
      (r.constant false) (top_inverted_related xs us p) (top_inverted_related ys ws q)
  less_related false xs ys us ws s t g p q =
      law.below_related Good R A B r xs ys us ws s t (A.constant false) (B.constant false) g (r.constant false) p q

  zeros_related : (xs : List X) (us : List Y) → AllZip R xs us → AllZip R (replicate (length xs) (A.constant false)) (replicate (length us) (B.constant false))
  zeros_related xs us p =
      subst (λ n. AllZip R (replicate (length xs) (A.constant false)) (replicate n (B.constant false))) (same_length R xs us p)
      (law.replicate_related Good R A B r (length xs) (A.constant false) (B.constant false) (r.constant false))

  pub unary_good : (op : UnaryOp) (xs : List X) (s : S) → Good (unary_bits A op s xs).0 → Good s
  unary_good unary.Plus xs s g = g
  unary_good unary.Minus xs s g = law.summed_good Good R A B r (replicate (length xs) (A.constant false)) (map A.negation xs) s (A.constant true) g
  unary_good unary.Not xs s g = law.reduced_good Good R A B r Or xs s g
  unary_good unary.Invert xs s g = g
  unary_good unary.And xs s g = law.reduced_good Good R A B r And xs s g
  unary_good unary.Nand xs s g = law.reduced_good Good R A B r And xs s g
  unary_good unary.Or xs s g = law.reduced_good Good R A B r Or xs s g
  unary_good unary.Nor xs s g = law.reduced_good Good R A B r Or xs s g
  unary_good unary.Xor xs s g = law.reduced_good Good R A B r Xor xs s g
  unary_good unary.Xnor xs s g = law.reduced_good Good R A B r Xor xs s g

  pub unary_related :
      (op : UnaryOp) (xs : List X) (us : List Y) (s : S) (t : T) → Good (unary_bits A op s xs).0 → AllZip R xs us
      → AllZip R (unary_bits A op s xs).1 (unary_bits B op t us).1
  unary_related unary.Plus xs us s t g p = p
  unary_related unary.Minus xs us s t g p =
      (law.summed_related Good R A B r (replicate (length xs) (A.constant false)) (map A.negation xs) (replicate (length us) (B.constant false)) (map B.negation us)
      s t (A.constant true) (B.constant true) g (r.constant true) (zeros_related xs us p) (law.negations_related Good R A B r xs us p)).bits
  unary_related unary.Not xs us s t g p = (r.negation _ _ (law.reduced_related Good R A B r Or xs us s t g p), tt)
  unary_related unary.Invert xs us s t g p = law.negations_related Good R A B r xs us p
  unary_related unary.And xs us s t g p = (law.reduced_related Good R A B r And xs us s t g p, tt)
  unary_related unary.Nand xs us s t g p = (r.negation _ _ (law.reduced_related Good R A B r And xs us s t g p), tt)
  unary_related unary.Or xs us s t g p = (law.reduced_related Good R A B r Or xs us s t g p, tt)
  unary_related unary.Nor xs us s t g p = (r.negation _ _ (law.reduced_related Good R A B r Or xs us s t g p), tt)
  unary_related unary.Xor xs us s t g p = (law.reduced_related Good R A B r Xor xs us s t g p, tt)
  unary_related unary.Xnor xs us s t g p = (r.negation _ _ (law.reduced_related Good R A B r Xor xs us s t g p), tt)

  -- both reductions of `&&` and `||` were good
  two_good : (xs ys : List X) (s : S) → Good (reduced A Or (reduced A Or s xs).0 ys).0 → Good s
  two_good xs ys s g = law.reduced_good Good R A B r Or xs s (law.reduced_good Good R A B r Or ys (reduced A Or s xs).0 g)

  pub binary_good : (op : BinaryOp) (signed : Bool) (xs ys : List X) (s : S) → Good (binary_bits A op signed s xs ys).0 → Good s
  binary_good binary.Mul signed xs ys s g = move.product_good Good R A B r xs ys s g
  binary_good binary.Div signed xs ys s g = g
  binary_good binary.Rem signed xs ys s g = g
  binary_good binary.Add signed xs ys s g = law.summed_good Good R A B r xs ys s (A.constant false) g
  binary_good binary.Sub signed xs ys s g = law.summed_good Good R A B r xs (map A.negation ys) s (A.constant true) g
  binary_good binary.Shl signed xs ys s g = move.shifted_good Good R A B r Up ys s (A.constant false) 1 xs g
  binary_good binary.Shr signed xs ys s g = move.shifted_good Good R A B r Down ys s (A.constant false) 1 xs g
  binary_good binary.ArithShl signed xs ys s g = move.shifted_good Good R A B r Up ys s (A.constant false) 1 xs g
  binary_good binary.ArithShr signed xs ys s g = move.shifted_good Good R A B r Down ys s (cond signed (top A xs) (A.constant false)) 1 xs g
  binary_good binary.Lt signed xs ys s g = less_good signed xs ys s g
  binary_good binary.Le signed xs ys s g = less_good signed ys xs s g
  binary_good binary.Gt signed xs ys s g = less_good signed ys xs s g
  binary_good binary.Ge signed xs ys s g = less_good signed xs ys s g
  binary_good binary.Eq signed xs ys s g = law.equal_good Good R A B r xs ys s g
  binary_good binary.Ne signed xs ys s g = law.equal_good Good R A B r xs ys s g
  binary_good binary.And signed xs ys s g = law.each_good Good R A B r And xs ys s g
  binary_good binary.Xor signed xs ys s g = law.each_good Good R A B r Xor xs ys s g
  binary_good binary.Xnor signed xs ys s g = law.each_good Good R A B r Xor xs ys s g
  binary_good binary.Or signed xs ys s g = law.each_good Good R A B r Or xs ys s g
  binary_good binary.LogicAnd signed xs ys s g = two_good xs ys s (r.both_good _ _ _ g)
  binary_good binary.LogicOr signed xs ys s g = two_good xs ys s (law.either_good Good R A B r _ _ _ g)

  pub binary_related :
      (op : BinaryOp) (signed : Bool) (xs ys : List X) (us ws : List Y) (s : S) (t : T) → Good (binary_bits A op signed s xs ys).0
      → AllZip R xs us → AllZip R ys ws → AllZip R (binary_bits A op signed s xs ys).1 (binary_bits B op signed t us ws).1
  binary_related binary.Mul signed xs ys us ws s t g p q = move.product_related Good R A B r xs ys us ws s t g p q
  binary_related binary.Div signed xs ys us ws s t g p q = tt
  binary_related binary.Rem signed xs ys us ws s t g p q = tt
  binary_related binary.Add signed xs ys us ws s t g p q =
      (law.summed_related Good R A B r xs ys us ws s t (A.constant false) (B.constant false) g (r.constant false) p q).bits
  binary_related binary.Sub signed xs ys us ws s t g p q =
      (law.summed_related Good R A B r xs (map A.negation ys) us (map B.negation ws) s t (A.constant true) (B.constant true) g (r.constant true) p (law.negations_related Good R A B r ys ws q)).bits
  binary_related binary.Shl signed xs ys us ws s t g p q =
      move.shifted_related Good R A B r Up ys ws s t (A.constant false) (B.constant false) 1 xs us g (r.constant false) q p
  binary_related binary.Shr signed xs ys us ws s t g p q =
      move.shifted_related Good R A B r Down ys ws s t (A.constant false) (B.constant false) 1 xs us g (r.constant false) q p
  binary_related binary.ArithShl signed xs ys us ws s t g p q =
      move.shifted_related Good R A B r Up ys ws s t (A.constant false) (B.constant false) 1 xs us g (r.constant false) q p
  binary_related binary.ArithShr signed xs ys us ws s t g p q =
      move.shifted_related Good R A B r Down ys ws s t (cond signed (top A xs) (A.constant false)) (cond signed (top B us) (B.constant false)) 1 xs us g (fill_related signed xs us p) q p
  binary_related binary.Lt signed xs ys us ws s t g p q = (less_related signed xs ys us ws s t g p q, tt)
  binary_related binary.Le signed xs ys us ws s t g p q = (r.negation _ _ (less_related signed ys xs ws us s t g q p), tt)
  binary_related binary.Gt signed xs ys us ws s t g p q = (less_related signed ys xs ws us s t g q p, tt)
  binary_related binary.Ge signed xs ys us ws s t g p q = (r.negation _ _ (less_related signed xs ys us ws s t g p q), tt)
  binary_related binary.Eq signed xs ys us ws s t g p q = (law.equal_related Good R A B r xs ys us ws s t g p q, tt)
  binary_related binary.Ne signed xs ys us ws s t g p q = (r.negation _ _ (law.equal_related Good R A B r xs ys us ws s t g p q), tt)
  binary_related binary.And signed xs ys us ws s t g p q = law.each_related Good R A B r And xs ys us ws s t g p q
  binary_related binary.Xor signed xs ys us ws s t g p q = law.each_related Good R A B r Xor xs ys us ws s t g p q
  binary_related binary.Xnor signed xs ys us ws s t g p q =
      law.negations_related Good R A B r (each A Xor s xs ys).1 (each B Xor t us ws).1 (law.each_related Good R A B r Xor xs ys us ws s t g p q)
  binary_related binary.Or signed xs ys us ws s t g p q = law.each_related Good R A B r Or xs ys us ws s t g p q
  binary_related binary.LogicAnd signed xs ys us ws s t g p q =
      let l : Step S X = reduced A Or s xs in let m : Step T Y = reduced B Or t us in
      let n : Step S X = reduced A Or l.0 ys in let o : Step T Y = reduced B Or m.0 ws in
      let g1 : Good n.0 = r.both_good n.0 l.1 n.1 g in
      let g0 : Good l.0 = law.reduced_good Good R A B r Or ys l.0 g1 in
      (r.both n.0 o.0 l.1 n.1 m.1 o.1 g (law.reduced_related Good R A B r Or xs us s t g0 p) (law.reduced_related Good R A B r Or ys ws l.0 m.0 g1 q), tt)
  binary_related binary.LogicOr signed xs ys us ws s t g p q =
      let l : Step S X = reduced A Or s xs in let m : Step T Y = reduced B Or t us in
      let n : Step S X = reduced A Or l.0 ys in let o : Step T Y = reduced B Or m.0 ws in
      let g1 : Good n.0 = law.either_good Good R A B r n.0 l.1 n.1 g in
      let g0 : Good l.0 = law.reduced_good Good R A B r Or ys l.0 g1 in
      (law.either_related Good R A B r n.0 o.0 l.1 n.1 m.1 o.1 g (law.reduced_related Good R A B r Or xs us s t g0 p) (law.reduced_related Good R A B r Or ys ws l.0 m.0 g1 q), tt)
