-- Shifts down on numbers, in two values: a quotient by a power of two, with 0 or with 1 above it.
use Rattle.std.proofs.Common.{◌≡◌, ℕ, zero, suc, ◌+◌, ◌-◌, ◌*◌, ◌/◌, ◌%◌, ◌^◌, ◌<◌, ◌≤◌, Bool, true, false, not, List, [], ◌∷◌, ◌++◌, length, replicate, drop, map, cond, ltb, eqb, arith, refl, sym, ap, ◌∙◌, ⊎_elim}
use Rattle.std.proofs.lemmas.Bool.{cond_both, ltb-true, ltb-false, cases_lt}
use Rattle.std.proofs.lemmas.List.{length-replicate, length-map}
use Rattle.std.proofs.lemmas.Nat.{shr_high, shr-shr, shr_split, shr_below, mod_below, pow_pos, pow-add}
use Rattle.std.proofs.Math.Nat.{div-eq_of_lt, pow-le-pow_right}
use Rattle.rst_word.specs.Words.{filled}
use Rattle.rst_terms.specs.declared.kinds.Direction.TheVariants.{Down}
use Rattle.rst_terms.specs.declared.kinds.Connective.TheVariants.{Or}
use Rattle.rst_terms.specs.Algebras.{bits, Step}
use Rattle.rst_terms.specs.Recurrences.{chosen, reduced, moved, moved_out, shifted}
use Rattle.rst_terms.specs.Numbers.{digit, number}
use Rattle.rst_terms.proofs.Choices.{chosen_bits}
use Rattle.rst_terms.proofs.Connectives.{any_number}
use Rattle.rst_terms.proofs.ShiftWidths.{moved_width, shifted_width}
use Rattle.rst_terms.proofs.ShiftsUp.{is_some, is_none}
use Rattle.rst_terms.proofs.Places.{number_below, number_append, number_zeros, number_drop, inverted_is}

nothing_above : (a p b : ℕ) → b ≡ 0 → a + p * b ≡ a
nothing_above a p b h = rw h (omega arith)

down_stage : (p : ℕ) (xs : List Bool) → p < length xs → number (moved Down false p xs) ≡ number xs / 2 ^ p
down_stage p xs h =
    number_append (drop p xs) (replicate p false)
    ∙ (nothing_above (number (drop p xs)) (2 ^ length (drop p xs)) (number (replicate p false)) (number_zeros p)
    ∙ number_drop p xs (omega arith))

past_down : (n w p m : ℕ) → n < 2 ^ w → w ≤ p → 0 < m → n / 2 ^ (p * m) ≡ 0
past_down n w p zero h k l = absurd (omega arith)
past_down n w p (suc m) h k l =
    let wide : w ≤ p * suc m = omega arith in
    let rises : 2 ^ w ≤ 2 ^ (p * suc m) = pow-le-pow_right (omega arith) wide in
    div-eq_of_lt (omega arith)

none_down : (n p : ℕ) → n ≡ n / 2 ^ (p * 0)
none_down n p = let e : p * 0 ≡ 0 = omega arith in rw e (omega arith)

down_cases :
    (big : Bool) (p m : ℕ) (xs : List Bool) → big ≡ not (eqb m 0) → length xs ≤ p
    → number (cond big (replicate (length xs) false) xs) ≡ number xs / 2 ^ (p * m)
down_cases true p m xs e h =
    number_zeros (length xs) ∙ sym (past_down (number xs) (length xs) p m (number_below xs) h (is_some m e))
down_cases false p m xs e h = none_down (number xs) p ∙ ap (λ k. number xs / 2 ^ (p * k)) (sym (is_none m e))

down_out : (p : ℕ) (ns xs : List Bool) → length xs ≤ p → number (moved_out bits tt false ns xs).1 ≡ number xs / 2 ^ (p * number ns)
unfolding moved_out
down_out p ns xs h =
    ap number (chosen_bits (reduced bits Or tt ns).1 (replicate (length xs) false) xs (length-replicate (length xs) false))
    ∙ down_cases (reduced bits Or tt ns).1 p (number ns) xs (any_number ns) h

down_none : (p : ℕ) (xs : List Bool) → number (moved_out bits tt false [] xs).1 ≡ number xs / 2 ^ (p * 0)
unfolding moved_out
down_none p xs =
    ap number (chosen_bits false (replicate (length xs) false) xs (length-replicate (length xs) false)) ∙ none_down (number xs) p

down_more :
    (n : Bool) (m p : ℕ) (xs : List Bool) → p < length xs
    → number (cond n (moved Down false p xs) xs) / 2 ^ (2 * p * m) ≡ number xs / 2 ^ (p * (digit n + 2 * m))
down_more true m p xs h =
    let e : p + 2 * p * m ≡ p * (1 + 2 * m) = omega arith in
    ap (λ k. k / 2 ^ (2 * p * m)) (down_stage p xs h) ∙ (shr-shr (number xs) p (2 * p * m) ∙ ap (λ k. number xs / 2 ^ k) e)
down_more false m p xs h = let e : 2 * p * m ≡ p * (0 + 2 * m) = omega arith in ap (λ k. number xs / 2 ^ k) e

shifted_by :
    (ns : List Bool) (p : ℕ) (xs : List Bool) → number (shifted Down bits tt false p ns xs).1 ≡ number xs / 2 ^ (p * number ns)
shifted_by [] p xs = down_none p xs
shifted_by (n ∷ ns) p xs =
    let stage : Step (Unit {0}) (List Bool) = chosen bits tt n (moved Down false p xs) xs in
    cond_both (ltb p (length xs)) (shifted Down bits stage.0 false (2 * p) ns stage.1) (moved_out bits tt false (n ∷ ns) xs)
    (λ (r : Step (Unit {0}) (List Bool)). number r.1 ≡ number xs / 2 ^ (p * number (n ∷ ns)))
    (λ e.
    let below : p < length xs = ltb-true p (length xs) e in
    let one : stage.1 ≡ cond n (moved Down false p xs) xs = chosen_bits n (moved Down false p xs) xs (moved_width Down false p xs below) in
    shifted_by ns (2 * p) stage.1 ∙ (ap (λ zs. number zs / 2 ^ (2 * p * number ns)) one ∙ down_more n (number ns) p xs below))
    (λ e. down_out p (n ∷ ns) xs (ltb-false p (length xs) e))

pub shifted_down : (ns xs : List Bool) → number (shifted Down bits tt false 1 ns xs).1 ≡ number xs / 2 ^ number ns
shifted_down ns xs =
    let one : 1 * number ns ≡ number ns = omega arith in
    shifted_by ns 1 xs ∙ ap (λ n. number xs / 2 ^ n) one

-- With 1 above it, the bits inverted move down with 0 above them.
map_append : (xs ys : List Bool) → map not (xs ++ ys) ≡ map not xs ++ map not ys
map_append [] ys = refl
map_append (x ∷ xs) ys = ap (λ zs. not x ∷ zs) (map_append xs ys)

map_drop : (p : ℕ) (xs : List Bool) → map not (drop p xs) ≡ drop p (map not xs)
map_drop zero xs = refl
map_drop (suc p) [] = refl
map_drop (suc p) (x ∷ xs) = map_drop p xs

map_repeated : (n : ℕ) (b : Bool) → map not (replicate n b) ≡ replicate n (not b)
map_repeated zero b = refl
map_repeated (suc n) b = ap (λ zs. not b ∷ zs) (map_repeated n b)

twice : (xs : List Bool) → map not (map not xs) ≡ xs
twice [] = refl
twice (true ∷ xs) = ap (λ zs. true ∷ zs) (twice xs)
twice (false ∷ xs) = ap (λ zs. false ∷ zs) (twice xs)

moved_inverted : (p : ℕ) (xs : List Bool) → map not (moved Down true p xs) ≡ moved Down false p (map not xs)
moved_inverted p xs =
    map_append (drop p xs) (replicate p true)
    ∙ (ap (λ zs. zs ++ map not (replicate p true)) (map_drop p xs) ∙ ap (λ zs. drop p (map not xs) ++ zs) (map_repeated p true))

chosen_inverted : (c : Bool) (xs ys : List Bool) → map not (chosen bits tt c xs ys).1 ≡ (chosen bits tt c (map not xs) (map not ys)).1
chosen_inverted c [] ys = refl
chosen_inverted c (x ∷ xs) [] = refl
chosen_inverted true (x ∷ xs) (y ∷ ys) = ap (λ zs. not x ∷ zs) (chosen_inverted true xs ys)
chosen_inverted false (x ∷ xs) (y ∷ ys) = ap (λ zs. not y ∷ zs) (chosen_inverted false xs ys)

out_inverted : (ns xs : List Bool) → map not (moved_out bits tt true ns xs).1 ≡ (moved_out bits tt false ns (map not xs)).1
unfolding moved_out
out_inverted ns xs =
    chosen_inverted (reduced bits Or tt ns).1 (replicate (length xs) true) xs
    ∙ ap (λ zs. (chosen bits tt (reduced bits Or tt ns).1 zs (map not xs)).1)
    (map_repeated (length xs) true ∙ ap (λ n. replicate n false) (sym (length-map xs not)))

conds :
    (b c : Bool) (x y u v : Step (Unit {0}) (List Bool)) → b ≡ c → map not x.1 ≡ u.1 → map not y.1 ≡ v.1
    → map not (cond b x y).1 ≡ (cond c u v).1
conds true true x y u v e p q = p
conds false false x y u v e p q = q
conds true false x y u v e p q = cc
conds false true x y u v e p q = cc

shifted_inverted :
    (ns : List Bool) (p : ℕ) (xs : List Bool)
    → map not (shifted Down bits tt true p ns xs).1 ≡ (shifted Down bits tt false p ns (map not xs)).1
shifted_inverted [] p xs = out_inverted [] xs
shifted_inverted (n ∷ ns) p xs =
    let stage : Step (Unit {0}) (List Bool) = chosen bits tt n (moved Down true p xs) xs in
    let other : Step (Unit {0}) (List Bool) = chosen bits tt n (moved Down false p (map not xs)) (map not xs) in
    let one : map not stage.1 ≡ other.1 =
    chosen_inverted n (moved Down true p xs) xs ∙ ap (λ zs. (chosen bits tt n zs (map not xs)).1) (moved_inverted p xs) in
    conds (ltb p (length xs)) (ltb p (length (map not xs)))
    (shifted Down bits stage.0 true (2 * p) ns stage.1) (moved_out bits tt true (n ∷ ns) xs)
    (shifted Down bits other.0 false (2 * p) ns other.1) (moved_out bits tt false (n ∷ ns) (map not xs))
    (ap (ltb p) (sym (length-map xs not)))
    (shifted_inverted ns (2 * p) stage.1 ∙ ap (λ zs. (shifted Down bits tt false (2 * p) ns zs).1) one)
    (out_inverted (n ∷ ns) xs)

-- the inverted number moved down and inverted again
split_power : (w k : ℕ) → k ≤ w → 2 ^ w ≡ 2 ^ (w - k) * 2 ^ k
split_power w k h = let e : w ≡ w - k + k = omega arith in ap (λ n. 2 ^ n) e ∙ pow-add 2 (w - k) k

spread : (v q r p m w s : ℕ) → w ≡ m * p → v ≡ q * p + r → r < p → m ≡ s + 1 + q → w - 1 - v ≡ s * p + (p - 1 - r)
spread v q r p m w s h e k l = rw (h, e, l) (omega arith)

back : (v q r p m w : ℕ) → w ≡ m * p → v ≡ q * p + r → r < p → q < m → w - 1 - v ≡ (m - 1 - q) * p + (p - 1 - r)
back v q r p m w h e k l =
    let rest : m ≡ (m - 1 - q) + 1 + q = omega arith in
    spread v q r p m w (m - 1 - q) h e k rest

split_width : (w k : ℕ) → k ≤ w → w - k + k ≡ w
split_width w k h = omega arith

last : (a b c : ℕ) → c < b → b ≤ a → a - 1 - (b - 1 - c) ≡ c + (a - b)
last a b c h k = omega arith

filled_high : (v w k : ℕ) → k ≤ w → v < 2 ^ w → 2 ^ w - 1 - (2 ^ w - 1 - v) / 2 ^ k ≡ v / 2 ^ k + (2 ^ w - 2 ^ (w - k))
filled_high v w k h l =
    let p = pow_pos k in
    let q : v / 2 ^ k < 2 ^ (w - k) = shr_below v (w - k) k (rw (split_width w k h) l) in
    let e : (2 ^ w - 1 - v) / 2 ^ k ≡ 2 ^ (w - k) - 1 - v / 2 ^ k =
    ap (λ n. n / 2 ^ k) (back v (v / 2 ^ k) (v % 2 ^ k) (2 ^ k) (2 ^ (w - k)) (2 ^ w) (split_power w k h) (sym (shr_split v k)) (mod_below v (2 ^ k) p) q)
    ∙ shr_high (2 ^ (w - k) - 1 - v / 2 ^ k) k (2 ^ k - 1 - v % 2 ^ k) (omega (arith, p)) in
    let rises : 2 ^ (w - k) ≤ 2 ^ w = pow-le-pow_right (omega arith) (omega arith) in
    rw e (last (2 ^ w) (2 ^ (w - k)) (v / 2 ^ k) q rises)

filled_all : (v w k : ℕ) → w < k → v < 2 ^ w → 2 ^ w - 1 - (2 ^ w - 1 - v) / 2 ^ k ≡ v / 2 ^ k + (2 ^ w - 2 ^ (w - k))
filled_all v w k h l =
    let rises : 2 ^ w ≤ 2 ^ k = pow-le-pow_right (omega arith) (omega arith) in
    let one : v / 2 ^ k ≡ 0 = div-eq_of_lt (omega arith) in
    let other : (2 ^ w - 1 - v) / 2 ^ k ≡ 0 = div-eq_of_lt (omega arith) in
    let none : w - k ≡ 0 = omega arith in
    rw (one, other, none) (omega arith)

filled_down : (v w k : ℕ) → v < 2 ^ w → 2 ^ w - 1 - (2 ^ w - 1 - v) / 2 ^ k ≡ v / 2 ^ k + filled true (w - k) w
filled_down v w k h = ⊎_elim (λ p. filled_all v w k p h) (λ p. filled_high v w k p h) (cases_lt w k)

ones_down : (ns xs : List Bool) → number (shifted Down bits tt true 1 ns xs).1 ≡ number xs / 2 ^ number ns + filled true (length xs - number ns) (length xs)
ones_down ns xs =
    let low : List Bool = (shifted Down bits tt false 1 ns (map not xs)).1 in
    let width : length low ≡ length xs = shifted_width Down false ns 1 (map not xs) ∙ length-map xs not in
    sym (ap number (twice (shifted Down bits tt true 1 ns xs).1))
    ∙ (ap (λ zs. number (map not zs)) (shifted_inverted ns 1 xs)
    ∙ (inverted_is low
    ∙ (ap (λ w. 2 ^ w - 1 - number low) width
    ∙ (ap (λ n. 2 ^ length xs - 1 - n) (shifted_down ns (map not xs) ∙ ap (λ n. n / 2 ^ number ns) (inverted_is xs))
    ∙ filled_down (number xs) (length xs) (number ns) (number_below xs)))))

no_more : (n : ℕ) → n ≡ n + 0
no_more n = omega arith

pub filled_shift :
    (fill : Bool) (ns xs : List Bool)
    → number (shifted Down bits tt fill 1 ns xs).1 ≡ number xs / 2 ^ number ns + filled fill (length xs - number ns) (length xs)
filled_shift true ns xs = ones_down ns xs
filled_shift false ns xs = shifted_down ns xs ∙ no_more (number xs / 2 ^ number ns)
