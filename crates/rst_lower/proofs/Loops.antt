-- Steps of the loops over bits and parts, and what a table of words reads.
use Rattle.std.proofs.Common.{◌≡◌, ℕ, zero, suc, ◌+◌, ◌-◌, ◌/◌, ◌%◌, ◌<◌, List, [], ◌∷◌, ◌++◌, length, map, take, drop, get_or, set, eqb, arith, refl, sym, ap, ◌∙◌, append_assoc, add-one}
use Rattle.std.specs.declared.vec.Vec.{Vec}
use Rattle.std.specs.declared.alloc.Global.{Global}
use Rattle.std.proofs.lemmas.List.{length-map, map-append, append-nil}
use Rattle.rst_gate.specs.declared.edge.Edge.{Edge}
use Rattle.rst_gate.specs.SharedGates.{constant_edge}
use Rattle.rst_terms.specs.Numbers.{bits_of}
use Rattle.rst_typed_terms.specs.Expressions.{copies}

-- the words that vectors hold
abbrev pub words : List (Vec Edge Global) → List (List Edge)
words vs = map (λ (v : Vec Edge Global). v.items) vs

pub words_length : (vs : List (Vec Edge Global)) → length (map (λ (v : Vec Edge Global). v.items) vs) ≡ length vs
words_length vs = length-map vs (λ v. v.items)

pub words_read : (vs : List (Vec Edge Global)) (i : ℕ) (d : Vec Edge Global) → i < length vs → get_or (map (λ (v : Vec Edge Global). v.items) vs) i [] ≡ (get_or vs i d).items
words_read [] i d h = absurd (omega arith)
words_read (v ∷ vs) zero d h = refl
words_read (v ∷ vs) (suc i) d h = words_read vs i d (omega arith)

pub words_push : (vs : List (Vec Edge Global)) (v : Vec Edge Global) → map (λ (v : Vec Edge Global). v.items) (vs ++ v ∷ []) ≡ map (λ (v : Vec Edge Global). v.items) vs ++ v.items ∷ []
words_push vs v = map-append (λ (v : Vec Edge Global). v.items) vs (v ∷ [])

pub words_set : (vs : List (Vec Edge Global)) (i : ℕ) (v : Vec Edge Global) → map (λ (v : Vec Edge Global). v.items) (set vs i v) ≡ set (map (λ (v : Vec Edge Global). v.items) vs) i v.items
words_set [] i v = refl
words_set (w ∷ vs) zero v = refl
words_set (w ∷ vs) (suc i) v = let rest = words_set vs i v in λ k. w.items ∷ rest k

-- the bits from a place on
pub range_take : {X : Type 0} (xs : List X) (a n : ℕ) → take (a + n - a) (drop a xs) ≡ take n (drop a xs)
range_take xs a n = let e : a + n - a ≡ n = omega arith in ap (λ k. take k (drop a xs)) e

-- one more constant
pub constants_turn :
    (w i left : ℕ) (out more all : List Edge) → i < w → all ≡ out ++ map constant_edge (bits_of (w - i) left)
    → more ≡ out ++ constant_edge (eqb (left % 2) 1) ∷ [] → all ≡ more ++ map constant_edge (bits_of (w - (i + 1)) (left / 2))
constants_turn w i left out more all h run is =
    let e : w - i ≡ suc (w - (i + 1)) = omega arith in
    rw (is, append_assoc) (run ∙ ap (λ n. out ++ map constant_edge (bits_of n left)) e)

pub constants_end : (w : ℕ) (left : ℕ) (out all : List Edge) → all ≡ out ++ map constant_edge (bits_of (w - w) left) → out ≡ all
constants_end w left out all h =
    let e : w - w ≡ 0 = omega arith in
    sym (h ∙ (ap (λ n. out ++ map constant_edge (bits_of n left)) e ∙ append-nil out))

pub copies_more : {X : Type 0} (n : ℕ) (xs : List X) → copies (n + 1) xs ≡ copies n xs ++ xs
copies_more n xs = rw add-one refl
