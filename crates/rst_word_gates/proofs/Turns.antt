-- One more turn of the loops over the bits of words.
use Rattle.std.proofs.Common.{suc, take, map, true, Result, Ok, Err, ◌*◌, ◌^◌, ◌-◌, ltb, ⊎_elim, ◌≡◌, ℕ, ◌<◌, ◌≤◌, ◌+◌, List, [], ◌∷◌, ◌++◌, length, get_or, drop, replicate, refl, ap, ◌∙◌, arith, append_assoc}
use Rattle.std.specs.List.{All}
use Rattle.std.specs.Prelude.{IfOk, OnOk}
use Rattle.std.specs.declared.vec.Vec.{Vec}
use Rattle.std.specs.declared.alloc.Global.{Global}
use Rattle.std.proofs.lemmas.List.{drop_more}
use Rattle.std.proofs.lemmas.List.Elements.{All-weaker, All-replicate, All-nil, All-cons, All-head, All-tail, All-append, All-take, All-drop}
use Rattle.std.proofs.lemmas.Bool.{cases_lt, cond-false, le-ltb}
use Rattle.std.proofs.Math.Nat.{two-pow-succ, pow-le-pow_right, mul-le-mul_left}
use Rattle.rst_terms.specs.declared.kinds.Direction.{Direction}
use Rattle.rst_terms.specs.declared.kinds.Direction.TheVariants.{Up, Down}
use Rattle.rst_gate.specs.declared.edge.Edge.{Edge}
use Rattle.rst_gate.specs.Circuits.{IsBelow}
use Rattle.rst_gate.specs.SharedGates.{turned}
use Rattle.rst_terms.specs.Algebras.{Algebra, Step}
use Rattle.rst_terms.specs.Recurrences.{added, Summed, summed, evens, odds, chosen, selected, moved, shifted, moved_out}

-- the bits so far, then those of the rest
abbrev pub sum_behind : {S X : Type 0} → List X → Summed S X → Summed S X
sum_behind out r = record { state = r.state; bits = out ++ r.bits; carry = r.carry }

pub sum_turn :
    {S X : Type 0} (A : Algebra S X) (xs ys : List X) (i : ℕ) (d e : X) (out out' : List X) (whole : Summed S X)
    (s s' : S) (c c' bit : X)
    → i < length xs → i < length ys → whole ≡ sum_behind out (summed A s c (drop i xs) (drop i ys))
    → s' ≡ (added A s (get_or xs i d) (get_or ys i e) c).state → bit ≡ (added A s (get_or xs i d) (get_or ys i e) c).bit
    → c' ≡ (added A s (get_or xs i d) (get_or ys i e) c).carry → out' ≡ out ++ bit ∷ []
    → whole ≡ sum_behind out' (summed A s' c' (drop (i + 1) xs) (drop (i + 1) ys))
sum_turn A xs ys i d e out out' whole s s' c c' bit h k run at_state at_bit at_carry at_out =
    let xs' = drop (i + 1) xs in
    let ys' = drop (i + 1) ys in
    run
    ∙ (rw (drop_more xs i d h, drop_more ys i e k, at_out, at_bit, at_state, at_carry, append_assoc))

-- edges that name the first nodes name the first of more nodes
pub All-later : (m n : ℕ) (es : List Edge) → m ≤ n → All (IsBelow m) es → All (IsBelow n) es
All-later m n es h all = All-weaker (IsBelow m) (IsBelow n) (λ e b. omega arith) es all

abbrev pub bits_behind : {S X : Type 0} → List X → Step S (List X) → Step S (List X)
bits_behind out r = (r.0, out ++ r.1)

pub replicate_stands : (n k : ℕ) (e : Edge) → IsBelow n e → All (IsBelow n) (replicate k e)
replicate_stands n k e h = All-replicate (IsBelow n) k e h

pub edges_later : (m n : ℕ) (es : List Edge) → m ≤ n → All (IsBelow m) es → All (IsBelow n) es
edges_later m n es h all = All-weaker (IsBelow m) (IsBelow n) (λ e b. omega arith) es all

-- the next two bits of a word
two_more :
    {X : Type 0} (xs : List X) (i : ℕ) (d e : X) → i + i + 1 < length xs
    → drop (i + i) xs ≡ get_or xs (i + i) d ∷ get_or xs (i + i + 1) e ∷ drop (i + 1 + (i + 1)) xs
two_more xs i d e h =
    let place : i + 1 + (i + 1) ≡ i + i + 1 + 1 = omega arith in
    rw place
    (drop_more xs (i + i) d (omega arith)
    ∙ ap (λ zs. get_or xs (i + i) d ∷ zs) (drop_more xs (i + i + 1) e h))

pub evens_turn :
    {X : Type 0} (xs out out' : List X) (i : ℕ) (d : X) → i + i + 1 < length xs → evens xs ≡ out ++ evens (drop (i + i) xs)
    → out' ≡ out ++ get_or xs (i + i) d ∷ [] → evens xs ≡ out' ++ evens (drop (i + 1 + (i + 1)) xs)
evens_turn xs out out' i d h run is =
    rw (is, append_assoc) (run ∙ ap (λ zs. out ++ evens zs) (two_more xs i d d h))

pub odds_turn :
    {X : Type 0} (xs out out' : List X) (i : ℕ) (e : X) → i + i + 1 < length xs → odds xs ≡ out ++ odds (drop (i + i) xs)
    → out' ≡ out ++ get_or xs (i + i + 1) e ∷ [] → odds xs ≡ out' ++ odds (drop (i + 1 + (i + 1)) xs)
odds_turn xs out out' i e h run is =
    rw (is, append_assoc) (run ∙ ap (λ zs. out ++ odds zs) (two_more xs i e e h))

-- half of a power
pub pow_half : (k j : ℕ) → j < k → 2 ^ (k - j) ≡ 2 ^ (k - (j + 1)) + 2 ^ (k - (j + 1))
pow_half k j h = let e : k - j ≡ suc (k - (j + 1)) = omega arith in rw e (two-pow-succ (k - (j + 1)))

pub evens_stand : (n : ℕ) (es : List Edge) → All (IsBelow n) es → All (IsBelow n) (evens es)
evens_stand n [] h = h
evens_stand n (x ∷ []) h = h
evens_stand n (x ∷ y ∷ es) h =
    All-cons (IsBelow n) x (evens es) (All-head (IsBelow n) x (y ∷ es) h)
    (evens_stand n es (All-tail (IsBelow n) y es (All-tail (IsBelow n) x (y ∷ es) h)))

pub odds_stand : (n : ℕ) (es : List Edge) → All (IsBelow n) es → All (IsBelow n) (odds es)
odds_stand n [] h = h
odds_stand n (x ∷ []) h = All-nil (IsBelow n)
odds_stand n (x ∷ y ∷ es) h =
    All-cons (IsBelow n) y (odds es) (All-head (IsBelow n) y es (All-tail (IsBelow n) x (y ∷ es) h))
    (odds_stand n es (All-tail (IsBelow n) y es (All-tail (IsBelow n) x (y ∷ es) h)))

pub moved_stands :
    (way : Direction) (n p : ℕ) (fill : Edge) (es : List Edge) → IsBelow n fill → All (IsBelow n) es
    → All (IsBelow n) (moved way fill p es)
moved_stands Up n p fill es h k =
    All-append (IsBelow n) (replicate p fill) (take (length es - p) es) (replicate_stands n p fill h) (All-take (IsBelow n) (length es - p) es k)
moved_stands Down n p fill es h k =
    All-append (IsBelow n) (drop p es) (replicate p fill) (All-drop (IsBelow n) p es k) (replicate_stands n p fill h)

-- a stage moves a word of at most 64 bits by fewer than 64 places
pub stage_bound : (j w : ℕ) → 2 ^ j < w → w ≤ 64 → j + 1 ≤ 6
stage_bound j w h k =
    ⊎_elim (λ p. omega arith)
    (λ (q : 6 ≤ j). let rises : 2 ^ 6 ≤ 2 ^ j = pow-le-pow_right (omega arith) q in absurd (omega arith))
    (cases_lt j 6)

pub stages_fit : (w j k : ℕ) → j ≤ k → w * j ≤ w * k
stages_fit w j k h = mul-le-mul_left w h

-- bits of the amount that stand for too many places
pub shift_past :
    {S X : Type 0} (way : Direction) (A : Algebra S X) (s : S) (fill : X) (p : ℕ) (ns xs : List X) → length xs ≤ p
    → shifted way A s fill p ns xs ≡ moved_out A s fill ns xs
shift_past way A s fill p [] xs h = refl
shift_past way A s fill p (n ∷ ns) xs h = cond-false (ltb p (length xs)) _ _ (le-ltb p (length xs) h)

pub select_turn :
    {S X : Type 0} (A : Algebra S X) (s s' : S) (ns : List X) (j : ℕ) (d : X) (xs ys es os : List X) → j < length ns
    → es ≡ evens xs → os ≡ odds xs → s' ≡ (chosen A s (get_or ns j d) os es).0 → ys ≡ (chosen A s (get_or ns j d) os es).1
    → selected A s (drop j ns) xs ≡ selected A s' (drop (j + 1) ns) ys
select_turn A s s' ns j d xs ys es os h even odd state bits = rw (state, bits, even, odd, drop_more ns j d h)

-- inverted edges name the same nodes
pub inverted_stand : (n : ℕ) (es : List Edge) → All (IsBelow n) es → All (IsBelow n) (map (turned true) es)
inverted_stand n [] h = h
inverted_stand n (e ∷ es) h =
    All-cons (IsBelow n) (turned true e) (map (turned true) es) (All-head (IsBelow n) e es h)
    (inverted_stand n es (All-tail (IsBelow n) e es h))

pub inverted_result :
    {E : Type 0} (n : ℕ) (es : List Edge) (r : Result (Vec Edge Global) E) → IfOk r (λ v. v.items ≡ map (turned true) es)
    → All (IsBelow n) es → IfOk r (λ v. All (IsBelow n) v.items)
inverted_result n es (Ok v) h k = rw h (inverted_stand n es k)
inverted_result n es (Err e) h k = tt

pub on_ok : {A E : Type 0} (r : Result A E) (P Q : Type 0) → (P → Q) → OnOk r P → OnOk r Q
on_ok (Ok x) P Q f h = f h
on_ok (Err e) P Q f h = tt
