-- Two lists against each other, place by place, and against the parts of an appended one.
use Rattle.std.proofs.Common.{◌≡◌, ◌∙◌, ℕ, zero, suc, ◌<◌, ◌≤◌, ◌+◌, ◌-◌, Bool, true, false, ◌&&◌, ◌||◌, List, [], ◌∷◌, ◌++◌, length, get_or, take, drop, refl, ap, sym, add-one, arith, length-drop}
use Rattle.std.proofs.lemmas.List.{at_drop_more}
use Rattle.rst_value.specs.declared.tern.Tern.{Tern}
use Rattle.rst_pair.specs.declared.hop.Hop.{Hop}
use Rattle.rst_pair.specs.Aims.{are_opposite, contradicts, contradicts_all, agrees, is_within}
use Rattle.rst_pair.specs.Hops.{cubes_of}

contradicts_step :
    (xs ys : List Tern) (i : ℕ) (d e : Tern) → i < length xs → length xs ≡ length ys
    → contradicts (drop i xs) (drop i ys) ≡ (are_opposite (get_or xs i d) (get_or ys i e) || contradicts (drop (suc i) xs) (drop (suc i) ys))
contradicts_step [] ys i d e below same = absurd (omega arith)
contradicts_step (x ∷ xs) [] i d e below same = absurd (omega arith)
contradicts_step (x ∷ xs) (y ∷ ys) zero d e below same = refl
contradicts_step (x ∷ xs) (y ∷ ys) (suc i) d e below same = contradicts_step xs ys i d e (omega arith) (omega arith)

pub contradicts_at :
    (xs ys : List Tern) (i : ℕ) (d e : Tern) → i < length xs → length xs ≡ length ys
    → contradicts (drop i xs) (drop i ys) ≡ (are_opposite (get_or xs i d) (get_or ys i e) || contradicts (drop (i + 1) xs) (drop (i + 1) ys))
contradicts_at xs ys i d e below same = rw (add-one i) (contradicts_step xs ys i d e below same)

pub contradicts_none : (xs ys : List Tern) (i : ℕ) → length xs ≤ i → contradicts (drop i xs) (drop i ys) ≡ false
contradicts_none [] ys zero past = refl
contradicts_none [] ys (suc i) past = refl
contradicts_none (x ∷ xs) ys zero past = absurd (omega arith)
contradicts_none (x ∷ xs) [] (suc i) past = empty_right (drop i xs) where
  empty_right : (zs : List Tern) → contradicts zs [] ≡ false
  empty_right [] = refl
  empty_right (z ∷ zs) = refl
contradicts_none (x ∷ xs) (y ∷ ys) (suc i) past = contradicts_none xs ys i (omega arith)

within_step :
    (xs ys : List Tern) (i : ℕ) (d e : Tern) → i < length xs → length xs ≡ length ys
    → is_within (drop i xs) (drop i ys) ≡ (agrees (get_or xs i d) (get_or ys i e) && is_within (drop (suc i) xs) (drop (suc i) ys))
within_step [] ys i d e below same = absurd (omega arith)
within_step (x ∷ xs) [] i d e below same = absurd (omega arith)
within_step (x ∷ xs) (y ∷ ys) zero d e below same = refl
within_step (x ∷ xs) (y ∷ ys) (suc i) d e below same = within_step xs ys i d e (omega arith) (omega arith)

pub within_at :
    (xs ys : List Tern) (i : ℕ) (d e : Tern) → i < length xs → length xs ≡ length ys
    → is_within (drop i xs) (drop i ys) ≡ (agrees (get_or xs i d) (get_or ys i e) && is_within (drop (i + 1) xs) (drop (i + 1) ys))
within_at xs ys i d e below same = rw (add-one i) (within_step xs ys i d e below same)

pub within_none : (xs ys : List Tern) (i : ℕ) → length xs ≤ i → length xs ≡ length ys → is_within (drop i xs) (drop i ys) ≡ true
within_none [] [] zero past same = refl
within_none [] [] (suc i) past same = refl
within_none [] (y ∷ ys) i past same = absurd (omega arith)
within_none (x ∷ xs) ys zero past same = absurd (omega arith)
within_none (x ∷ xs) [] (suc i) past same = absurd (omega arith)
within_none (x ∷ xs) (y ∷ ys) (suc i) past same = within_none xs ys i (omega arith) (omega arith)

or_assoc : (a b c : Bool) → (a || (b || c)) ≡ ((a || b) || c)
or_assoc true b c = refl
or_assoc false b c = refl

and_assoc : (a b c : Bool) → (a && (b && c)) ≡ ((a && b) && c)
and_assoc true b c = refl
and_assoc false b c = refl

-- a cube against the two parts of an appended one
pub contradicts_parts :
    (xs us vs : List Tern) → length xs ≡ length us + length vs
    → contradicts xs (us ++ vs) ≡ (contradicts (take (length us) xs) us || contradicts (drop (length us) xs) vs)
contradicts_parts xs [] vs same = refl
contradicts_parts [] (u ∷ us) vs same = absurd (omega arith)
contradicts_parts (x ∷ xs) (u ∷ us) vs same =
    ap (λ r. are_opposite x u || r) (contradicts_parts xs us vs (omega arith)) ∙ or_assoc (are_opposite x u) _ _

pub within_parts :
    (xs us vs : List Tern) → length xs ≡ length us + length vs
    → is_within xs (us ++ vs) ≡ (is_within (take (length us) xs) us && is_within (drop (length us) xs) vs)
within_parts xs [] vs same = refl
within_parts [] (u ∷ us) vs same = absurd (omega arith)
within_parts (x ∷ xs) (u ∷ us) vs same =
    ap (λ r. agrees x u && r) (within_parts xs us vs (omega arith)) ∙ and_assoc (agrees x u) _ _

-- one more hop of those whose cubes are contradicted
pub all_more :
    (hops : List Hop) (i : ℕ) (hop : Hop) (shown : List Tern) (b : Bool) → i < length hops → hop ≡ get_or hops i hop
    → b ≡ contradicts hop.cube shown
    → contradicts_all (cubes_of (drop i hops)) shown ≡ (b && contradicts_all (cubes_of (drop (i + 1) hops)) shown)
all_more hops i hop shown b below is this =
    at_drop_more (λ hs. contradicts_all (cubes_of hs) shown) hops i hop below
    ∙ ap (λ c. c && contradicts_all (cubes_of (drop (i + 1) hops)) shown) (ap (λ h. contradicts h.cube shown) (sym is) ∙ sym this)

take_all : (n : ℕ) (xs : List Tern) → length xs ≤ n → take n xs ≡ xs
take_all zero [] h = refl
take_all zero (x ∷ xs) h = absurd (omega arith)
take_all (suc n) [] h = refl
take_all (suc n) (x ∷ xs) h = ap (λ r. x ∷ r) (take_all n xs (omega arith))

-- a list from a place on, as a slice has it
pub rest_all : (n : ℕ) (xs : List Tern) → take (length xs - n) (drop n xs) ≡ drop n xs
rest_all n xs = take_all (length xs - n) (drop n xs) (omega (arith, length-drop {A = Tern}))

-- the two parts of an appended one, as they are read
pub within_both :
    (xs us vs : List Tern) (a b : Bool) → length xs ≡ length us + length vs → a ≡ is_within (take (length us) xs) us
    → b ≡ is_within (take (length xs - length us) (drop (length us) xs)) vs → (a && b) ≡ is_within xs (us ++ vs)
within_both xs us vs a b same is_a is_b = rw (is_a, is_b, rest_all (length us) xs) (sym (within_parts xs us vs same))

pub contradicts_both :
    (xs us vs : List Tern) (a b : Bool) → length xs ≡ length us + length vs → a ≡ contradicts (take (length us) xs) us
    → b ≡ contradicts (take (length xs - length us) (drop (length us) xs)) vs → (a || b) ≡ contradicts xs (us ++ vs)
contradicts_both xs us vs a b same is_a is_b = rw (is_a, is_b, rest_all (length us) xs) (sym (contradicts_parts xs us vs same))
