-- The bits of an expression in two algebras whose operations respect a relation.
use Rattle.std.proofs.Common.{ℕ, zero, suc, ◌^◌, Bool, true, false, List, [], ◌∷◌, length, map, take, drop, cond, subst}
use Rattle.std.proofs.lemmas.Bool.{cond_both}
use Rattle.std.specs.List.{AllZip}
use Rattle.rst_width.specs.declared.typed_expr.Shape.{Shape}
use Rattle.rst_width.specs.Typed.{Typed, Node, TypedList, typed, end, more, shape_of}
use Rattle.rst_width.specs.Typed as node
use Rattle.rst_terms.specs.declared.kinds.Connective.TheVariants.{Or}
use Rattle.rst_terms.specs.Algebras.{Algebra, Step}
use Rattle.rst_terms.specs.Numbers.{bits_of}
use Rattle.rst_terms.specs.Recurrences.{reduced}
use Rattle.rst_terms.specs.Operators.{binary_bits, is_division}
use Rattle.rst_terms.proofs.Respects.{Respects, same_length}
use Rattle.rst_terms.proofs.Respects as law
use Rattle.rst_terms.proofs.RespectsMoves as move
use Rattle.rst_terms.proofs.RespectsOperators as operator
use Rattle.rst_typed_terms.specs.Expressions.{expression_bits, node_bits, list_bits, copies}

-- what is good behind an expression was good before it
module _ {S T X Y : Type 0} (Good : S → Type 0) (R : X → Y → Type 0) (A : Algebra S X) (B : Algebra T Y) (r : Respects Good R A B) (words : ℕ → List X) where
  mutual
    pub expression_good : (e : Typed) (s : S) → Good (expression_bits A words s e).0 → Good s
    expression_good (typed shape node) s g = node_good shape node s g

    node_good : (shape : Shape) (n : Node) (s : S) → Good (node_bits A words s shape n).0 → Good s
    node_good shape (node.Word w) s g = g
    node_good shape (node.Signal i) s g = g
    node_good shape (node.Slice i low width) s g = g
    node_good shape (node.Pick i e) s g =
        let n : Step S (List X) = expression_bits A words s e in
        expression_good e s (move.selected_good Good R A B r n.1 (take (2 ^ length n.1) (words i)) n.0 g)
    node_good shape (node.Unary op e) s g =
        let n : Step S (List X) = expression_bits A words s e in
        expression_good e s (operator.unary_good Good R A B r op n.1 n.0 g)
    node_good shape (node.Binary op a b) s g =
        let l : Step S (List X) = expression_bits A words s a in
        let n : Step S (List X) = expression_bits A words l.0 b in
        cond_both (is_division op) _ (binary_bits A op (shape_of a).signed n.0 l.1 n.1) (λ (z : Step S (List X)). Good z.0 → Good s)
        (λ d g. g)
        (λ d g. expression_good a s (expression_good b l.0 (operator.binary_good Good R A B r op (shape_of a).signed l.1 n.1 n.0 g)))
        g
    node_good shape (node.Choose c a b) s g =
        let n : Step S (List X) = expression_bits A words s c in
        let t : Step S (List X) = expression_bits A words n.0 a in
        let e : Step S (List X) = expression_bits A words t.0 b in
        let test : Step S X = reduced A Or e.0 n.1 in
        expression_good c s (expression_good a n.0 (expression_good b t.0
        (law.reduced_good Good R A B r Or n.1 e.0 (law.chosen_good Good R A B r t.1 e.1 test.0 test.1 g))))
    node_good shape (node.Join es) s g = list_good es s g
    node_good shape (node.Repeat count es) s g = list_good es s g
    node_good shape (node.Extend e) s g = expression_good e s g
    node_good shape (node.Sign e) s g = expression_good e s g

    pub list_good : (es : TypedList) (s : S) → Good (list_bits A words s es).0 → Good s
    list_good end s g = g
    list_good (more x xs) s g = expression_good x s (list_good xs (expression_bits A words s x).0 g)

module _ {S T X Y : Type 0} (Good : S → Type 0) (R : X → Y → Type 0) (A : Algebra S X) (B : Algebra T Y) (r : Respects Good R A B) (words : ℕ → List X) (others : ℕ → List Y) (related : (i : ℕ) → AllZip R (words i) (others i)) where
  constant_list : (bs : List Bool) → AllZip R (map A.constant bs) (map B.constant bs)
  constant_list [] = tt
  constant_list (b ∷ bs) = (r.constant b, constant_list bs)

  copies_related : (n : ℕ) (xs : List X) (us : List Y) → AllZip R xs us → AllZip R (copies n xs) (copies n us)
  copies_related zero xs us p = tt
  copies_related (suc n) xs us p = law.zip_append Good R A B r (copies n xs) xs (copies n us) us (copies_related n xs us p) p

  conds_related :
      (b : Bool) (x y : Step S (List X)) (u v : Step T (List Y))
      → (Good x.0 → AllZip R x.1 u.1) → (Good y.0 → AllZip R y.1 v.1) → Good (cond b x y).0 → AllZip R (cond b x y).1 (cond b u v).1
  conds_related true x y u v h k = h
  conds_related false x y u v h k = k

  mutual
    pub expression_related :
        (e : Typed) (s : S) (t : T) → Good (expression_bits A words s e).0 → AllZip R (expression_bits A words s e).1 (expression_bits B others t e).1
    expression_related (typed shape node) s t g = node_related shape node s t g

    node_related :
        (shape : Shape) (n : Node) (s : S) (t : T) → Good (node_bits A words s shape n).0
        → AllZip R (node_bits A words s shape n).1 (node_bits B others t shape n).1
    node_related shape (node.Word w) s t g = constant_list (bits_of w.width w.value)
    node_related shape (node.Signal i) s t g = related i
    node_related shape (node.Slice i low width) s t g =
        law.zip_take Good R A B r width (drop low (words i)) (drop low (others i)) (law.zip_drop Good R A B r low (words i) (others i) (related i))
    node_related shape (node.Pick i e) s t g =
        let n : Step S (List X) = expression_bits A words s e in
        let m : Step T (List Y) = expression_bits B others t e in
        let g0 : Good n.0 = move.selected_good Good R A B r n.1 (take (2 ^ length n.1) (words i)) n.0 g in
        let index = expression_related e s t g0 in
        move.selected_related Good R A B r n.1 m.1 (take (2 ^ length n.1) (words i)) (take (2 ^ length m.1) (others i)) n.0 m.0 g index
        (subst (λ k. AllZip R (take (2 ^ length n.1) (words i)) (take (2 ^ k) (others i))) (same_length R n.1 m.1 index)
        (law.zip_take Good R A B r (2 ^ length n.1) (words i) (others i) (related i)))
    node_related shape (node.Unary op e) s t g =
        let n : Step S (List X) = expression_bits A words s e in
        let m : Step T (List Y) = expression_bits B others t e in
        operator.unary_related Good R A B r op n.1 m.1 n.0 m.0 g (expression_related e s t (operator.unary_good Good R A B r op n.1 n.0 g))
    node_related shape (node.Binary op a b) s t g =
        let l : Step S (List X) = expression_bits A words s a in
        let n : Step S (List X) = expression_bits A words l.0 b in
        let k : Step T (List Y) = expression_bits B others t a in
        let m : Step T (List Y) = expression_bits B others k.0 b in
        conds_related (is_division op) _ (binary_bits A op (shape_of a).signed n.0 l.1 n.1) _ (binary_bits B op (shape_of a).signed m.0 k.1 m.1)
        (λ g. constant_list _)
        (λ g.
        let g1 : Good n.0 = operator.binary_good Good R A B r op (shape_of a).signed l.1 n.1 n.0 g in
        let g0 : Good l.0 = expression_good Good R A B r words b l.0 g1 in
        operator.binary_related Good R A B r op (shape_of a).signed l.1 n.1 k.1 m.1 n.0 m.0 g (expression_related a s t g0) (expression_related b l.0 k.0 g1))
        g
    node_related shape (node.Choose c a b) s t g =
        let n : Step S (List X) = expression_bits A words s c in
        let o : Step S (List X) = expression_bits A words n.0 a in
        let e : Step S (List X) = expression_bits A words o.0 b in
        let test : Step S X = reduced A Or e.0 n.1 in
        let m : Step T (List Y) = expression_bits B others t c in
        let p : Step T (List Y) = expression_bits B others m.0 a in
        let f : Step T (List Y) = expression_bits B others p.0 b in
        let tested : Step T Y = reduced B Or f.0 m.1 in
        let g3 : Good test.0 = law.chosen_good Good R A B r o.1 e.1 test.0 test.1 g in
        let g2 : Good e.0 = law.reduced_good Good R A B r Or n.1 e.0 g3 in
        let g1 : Good o.0 = expression_good Good R A B r words b o.0 g2 in
        let g0 : Good n.0 = expression_good Good R A B r words a n.0 g1 in
        law.chosen_related Good R A B r o.1 e.1 p.1 f.1 test.0 tested.0 test.1 tested.1 g
        (law.reduced_related Good R A B r Or n.1 m.1 e.0 f.0 g3 (expression_related c s t g0))
        (expression_related a n.0 m.0 g1) (expression_related b o.0 p.0 g2)
    node_related shape (node.Join es) s t g = list_related es s t g
    node_related shape (node.Repeat count es) s t g =
        copies_related count (list_bits A words s es).1 (list_bits B others t es).1 (list_related es s t g)
    node_related shape (node.Extend e) s t g =
        operator.extended_related Good R A B r shape.signed shape.width (expression_bits A words s e).1 (expression_bits B others t e).1 (expression_related e s t g)
    node_related shape (node.Sign e) s t g = expression_related e s t g

    pub list_related :
        (es : TypedList) (s : S) (t : T) → Good (list_bits A words s es).0 → AllZip R (list_bits A words s es).1 (list_bits B others t es).1
    list_related end s t g = tt
    list_related (more x xs) s t g =
        let n : Step S (List X) = expression_bits A words s x in
        let m : Step T (List Y) = expression_bits B others t x in
        law.zip_append Good R A B r (list_bits A words n.0 xs).1 n.1 (list_bits B others m.0 xs).1 m.1
        (list_related xs n.0 m.0 g) (expression_related x s t (list_good Good R A B r words xs n.0 g))
