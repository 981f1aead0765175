-- The recurrences of words, by their bits, lowest first, over any algebra: the one definition that gates, two values and three values share.
-- Each operation is asked for where it stands, so the order of the gates is that of the lines.
use Rattle.std.specs.Prelude.{ℕ, suc, ◌-◌, ◌*◌, Bool, true, false, List, [], ◌∷◌, ◌++◌, length, map, take, drop, replicate, nat_lt, if◌then◌else◌}
use Rattle.rst_terms.specs.declared.kinds.Connective.{Connective}
use Rattle.rst_terms.specs.declared.kinds.Connective.TheVariants.{And, Or, Xor}
use Rattle.rst_terms.specs.declared.kinds.Direction.{Direction}
use Rattle.rst_terms.specs.declared.kinds.Direction.TheVariants.{Up, Down}
use Rattle.rst_terms.specs.Algebras.{Algebra, Step}

-- `or` of two bits: not (and (not a) (not b))
abbrev pub either : {S X : Type 0} → Algebra S X → S → X → X → Step S X
either A s a b =
    let r = A.both s (A.negation a) (A.negation b) in
    (r.0, A.negation r.1)

abbrev pub connected : {S X : Type 0} → Algebra S X → Connective → S → X → X → Step S X
connected A And = A.both
connected A Or = either A
connected A Xor = A.differ

-- two words bit by bit, over the places that both have
abbrev pub each : {S X : Type 0} → Algebra S X → Connective → S → List X → List X → Step S (List X)
each A op s [] ys = (s, [])
each A op s (x ∷ xs) [] = (s, [])
each A op s (x ∷ xs) (y ∷ ys) =
    let m = connected A op s x y in
    let rest = each A op m.0 xs ys in
    (rest.0, m.1 ∷ rest.1)

-- a value and the bits behind it, in order
abbrev pub joined : {S X : Type 0} → Algebra S X → Connective → S → X → List X → Step S X
joined A op s x [] = (s, x)
joined A op s x (y ∷ ys) = let r = connected A op s x y in joined A op r.0 r.1 ys

-- what the connective gives of no bits
abbrev pub of_none : Connective → Bool
of_none And = true
of_none Or = false
of_none Xor = false

-- all bits of a list: the first itself, then the others in order
abbrev pub reduced : {S X : Type 0} → Algebra S X → Connective → S → List X → Step S X
reduced A op s [] = (s, A.constant (of_none op))
reduced A op s (x ∷ xs) = joined A op s x xs

-- a == b: each `xor` of the two words, then the `and` over their negations
unfoldable pub equal : {S X : Type 0} → Algebra S X → S → List X → List X → Step S X
equal A s xs ys = let r = each A Xor s xs ys in reduced A And r.0 (map A.negation r.1)

-- a state, the bit of a sum, and the carry to the next
pub record Added (S X : Type 0) : Type 0 where
  pub state : S
  pub bit : X
  pub carry : X

-- xor (xor a b) c, and or (and a b) (and c (or a b))
unfoldable pub added : {S X : Type 0} → Algebra S X → S → X → X → X → Added S X
added A s a b c =
    let x = A.differ s a b in
    let sum = A.differ x.0 x.1 c in
    let p = A.both sum.0 a b in
    let o = either A p.0 a b in
    let q = A.both o.0 c o.1 in
    let carry = either A q.0 p.1 q.1 in
    record { state = carry.0; bit = sum.1; carry = carry.1 }

-- a state, the bits of a word, and the last carry
pub record Summed (S X : Type 0) : Type 0 where
  pub state : S
  pub bits : List X
  pub carry : X

-- a + b + c, over the places that both have, with the last carry
abbrev pub summed : {S X : Type 0} → Algebra S X → S → X → List X → List X → Summed S X
summed A s c [] ys = record { state = s; bits = []; carry = c }
summed A s c (a ∷ xs) [] = record { state = s; bits = []; carry = c }
summed A s c (a ∷ xs) (b ∷ ys) =
    let d = added A s a b c in
    let rest = summed A d.state d.carry xs ys in
    record { state = rest.state; bits = d.bit ∷ rest.bits; carry = rest.carry }

-- whether a is below b, where l says so of the lower bits
abbrev pub below : {S X : Type 0} → Algebra S X → S → X → List X → List X → Step S X
below A s l [] ys = (s, l)
below A s l (a ∷ xs) [] = (s, l)
below A s l (a ∷ xs) (b ∷ ys) =
    let x = A.differ s a b in
    let m = A.choice x.0 x.1 b l in
    below A m.0 m.1 xs ys

-- the bits of the first word where the select is one, else those of the second
abbrev pub chosen : {S X : Type 0} → Algebra S X → S → X → List X → List X → Step S (List X)
chosen A s c [] es = (s, [])
chosen A s c (t ∷ ts) [] = (s, [])
chosen A s c (t ∷ ts) (e ∷ es) =
    let m = A.choice s c t e in
    let rest = chosen A m.0 c ts es in
    (rest.0, m.1 ∷ rest.1)

-- the word whose bits stand p places further up, with the fill below them; and down, with the fill above them
abbrev pub moved : {X : Type 0} → Direction → X → ℕ → List X → List X
moved Up fill p xs = replicate p fill ++ take (length xs - p) xs
moved Down fill p xs = drop p xs ++ replicate p fill

-- the fill at each place where one of the bits is one, else the word
unfoldable pub moved_out : {S X : Type 0} → Algebra S X → S → X → List X → List X → Step S (List X)
moved_out A s fill high xs = let big = reduced A Or s high in chosen A big.0 big.1 (replicate (length xs) fill) xs

-- a word moved by an amount whose lowest bit stands for p places: a stage for each bit that stands for fewer places than the word
-- has, and then the fill where one of the others is one
abbrev pub shifted : {S X : Type 0} → Direction → Algebra S X → S → X → ℕ → List X → List X → Step S (List X)
shifted way A s fill p [] xs = moved_out A s fill [] xs
shifted way A s fill p (n ∷ ns) xs =
    if nat_lt p (length xs) then
    (let r = chosen A s n (moved way fill p xs) xs in shifted way A r.0 fill (2 * p) ns r.1)
    else moved_out A s fill (n ∷ ns) xs

-- the bits at the even and at the odd places
abbrev pub evens : {X : Type 0} → List X → List X
evens [] = []
evens (x ∷ []) = x ∷ []
evens (x ∷ y ∷ xs) = x ∷ evens xs

abbrev pub odds : {X : Type 0} → List X → List X
odds [] = []
odds (x ∷ []) = []
odds (x ∷ y ∷ xs) = y ∷ odds xs

-- the bit at an index: each bit of the index halves the word, and the first is the answer
abbrev pub selected : {S X : Type 0} → Algebra S X → S → List X → List X → Step S (List X)
selected A s [] xs = (s, xs)
selected A s (n ∷ ns) xs = let r = chosen A s n (odds xs) (evens xs) in selected A r.0 ns r.1

-- each bit of a word and one bit
abbrev pub masked : {S X : Type 0} → Algebra S X → S → X → List X → Step S (List X)
masked A s b [] = (s, [])
masked A s b (x ∷ xs) = let m = A.both s x b in let rest = masked A m.0 b xs in (rest.0, m.1 ∷ rest.1)

-- r + a * b, where i bits of the product below a were added already
abbrev pub added_up : {S X : Type 0} → Algebra S X → S → List X → List X → ℕ → List X → Step S (List X)
added_up A s r xs i [] = (s, r)
added_up A s r xs i (y ∷ ys) =
    let p = masked A s y (take (length xs - i) xs) in
    let next = summed A p.0 (A.constant false) r (replicate i (A.constant false) ++ p.1) in
    added_up A next.state next.bits xs (suc i) ys

abbrev pub product : {S X : Type 0} → Algebra S X → S → List X → List X → Step S (List X)
product A s xs ys = added_up A s (replicate (length xs) (A.constant false)) xs 0 ys
