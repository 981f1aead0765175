-- The order of numbers, unsigned and signed, in two values.
use Rattle.std.proofs.Common.{◌≡◌, ℕ, suc, ◌+◌, ◌-◌, ◌*◌, ◌<◌, ◌^◌, Bool, true, false, not, List, [], ◌∷◌, ◌++◌, length, take, drop, cond, ltb, leb, arith, refl, sym, ap, ◌∙◌, ℤ, pos, ◌<ℤ◌}
use Rattle.std.specs.Prelude.{int_lt, int_le, nat_le, ◌-ℤ◌}
use Rattle.std.proofs.lemmas.Bool.{lt-ltb, le-ltb, ltb-true, ltb-false}
use Rattle.std.proofs.lemmas.Bool.Decides.{nat_tests}
use Rattle.std.proofs.lemmas.Int.{ints}
use Rattle.std.proofs.lemmas.List.{drop_more, length-take-le, length-drop, length-append}
use Rattle.std.proofs.Math.Nat.{pow-suc}
use Rattle.rst_value.specs.Bits.{bit_xor, bit_mux}
use Rattle.rst_word.specs.Words.{top_bit, signed_value}
use Rattle.rst_terms.specs.Algebras.{bits}
use Rattle.rst_terms.specs.Recurrences.{below}
use Rattle.rst_terms.specs.Operators.{top, top_inverted}
use Rattle.rst_terms.specs.Numbers.{digit, number}
use Rattle.rst_terms.proofs.Places.{number_append, take_number, take_below}

-- tests that say the same are the same
pub same_tests : (a b c d : ℕ) → (a < b → c < d) → (c < d → a < b) → ltb a b ≡ ltb c d
same_tests a b c d h k = grind (arith, lt-ltb, le-ltb, ltb-true, ltb-false)

below_step :
    (x y l : Bool) (m n : ℕ)
    → ltb m (n + digit (bit_mux (bit_xor x y) y l)) ≡ ltb (digit x + 2 * m) (digit y + 2 * n + digit l)
below_step true true true m n = same_tests _ _ _ _ (λ h. omega arith) (λ h. omega arith)
below_step true true false m n = same_tests _ _ _ _ (λ h. omega arith) (λ h. omega arith)
below_step true false true m n = same_tests _ _ _ _ (λ h. omega arith) (λ h. omega arith)
below_step true false false m n = same_tests _ _ _ _ (λ h. omega arith) (λ h. omega arith)
below_step false true true m n = same_tests _ _ _ _ (λ h. omega arith) (λ h. omega arith)
below_step false true false m n = same_tests _ _ _ _ (λ h. omega arith) (λ h. omega arith)
below_step false false true m n = same_tests _ _ _ _ (λ h. omega arith) (λ h. omega arith)
below_step false false false m n = same_tests _ _ _ _ (λ h. omega arith) (λ h. omega arith)

below_end : (l : Bool) → l ≡ ltb 0 (0 + digit l)
below_end true = refl
below_end false = refl

pub below_number :
    (l : Bool) (xs ys : List Bool) → length xs ≡ length ys → (below bits tt l xs ys).1 ≡ ltb (number xs) (number ys + digit l)
below_number l [] [] h = below_end l
below_number l [] (y ∷ ys) h = absurd (omega arith)
below_number l (x ∷ xs) [] h = absurd (omega arith)
below_number l (x ∷ xs) (y ∷ ys) h =
    below_number (bit_mux (bit_xor x y) y l) xs ys (omega arith) ∙ below_step x y l (number xs) (number ys)

none_below : (a b : ℕ) → ltb a (b + 0) ≡ ltb a b
none_below a b = let e : b + 0 ≡ b = omega arith in rw e

pub below_unsigned : (xs ys : List Bool) → length xs ≡ length ys → (below bits tt false xs ys).1 ≡ ltb (number xs) (number ys)
below_unsigned xs ys h = below_number false xs ys h ∙ none_below (number xs) (number ys)

-- the lower bits and the top one
nothing : (xs : List Bool) → length xs ≡ 0 → xs ≡ []
nothing [] h = refl
nothing (x ∷ xs) h = absurd (omega arith)

one_more : (n : ℕ) → 0 < n → n - 1 + 1 ≡ n
one_more n h = omega arith

last_bit : (xs : List Bool) → 0 < length xs → drop (length xs - 1) xs ≡ top bits xs ∷ []
last_bit xs h =
    drop_more xs (length xs - 1) false (omega arith)
    ∙ ap (λ zs. top bits xs ∷ zs) (nothing (drop (length xs - 1 + 1) xs) (omega (arith, length-drop (length xs - 1 + 1) xs)))

digit_of : (b : Bool) → digit b + 2 * 0 ≡ digit b
digit_of true = refl
digit_of false = refl

pub top_number : (xs : List Bool) → 0 < length xs → number xs ≡ number (take (length xs - 1) xs) + 2 ^ (length xs - 1) * digit (top bits xs)
top_number xs h =
    take_number (length xs - 1) xs (omega arith)
    ∙ ap (λ n. number (take (length xs - 1) xs) + 2 ^ (length xs - 1) * n) (ap number (last_bit xs h) ∙ digit_of (top bits xs))

pub inverted_top : (xs : List Bool) → 0 < length xs → number (top_inverted bits xs) ≡ number (take (length xs - 1) xs) + 2 ^ (length xs - 1) * digit (not (top bits xs))
inverted_top xs h =
    number_append (take (length xs - 1) xs) (not (top bits xs) ∷ [])
    ∙ (ap (λ w. number (take (length xs - 1) xs) + 2 ^ w * (digit (not (top bits xs)) + 2 * 0)) (length-take-le (length xs - 1) xs (omega arith))
    ∙ ap (λ n. number (take (length xs - 1) xs) + 2 ^ (length xs - 1) * n) (digit_of (not (top bits xs))))

pub inverted_width : {X : Type 0} (xs : List X) (y : X) → 0 < length xs → length (take (length xs - 1) xs ++ y ∷ []) ≡ length xs
inverted_width xs y h = length-append (take (length xs - 1) xs) (y ∷ []) ∙ (ap (λ n. n + 1) (length-take-le (length xs - 1) xs (omega arith)) ∙ one_more (length xs) h)

top_by : (t : Bool) (l p : ℕ) → l < p → nat_le p (l + p * digit t) ≡ t
top_by true l p h = grind (arith, nat_tests)
top_by false l p h = grind (arith, nat_tests)

pub top_is : (xs : List Bool) → 0 < length xs → top_bit (length xs) (number xs) ≡ top bits xs
top_is xs h =
    ap (λ n. nat_le (2 ^ (length xs - 1)) n) (top_number xs h)
    ∙ top_by (top bits xs) (number (take (length xs - 1) xs)) (2 ^ (length xs - 1)) (take_below (length xs - 1) xs (omega arith))

-- two's complement keeps the order of what the bits spell with the top ones inverted
same_order : (x y : ℤ) (c d : ℕ) → (x <ℤ y → c < d) → (c < d → x <ℤ y) → int_lt x y ≡ ltb c d
same_order x y c d h k = grind (arith, ints, nat_tests)

signed_order :
    (t u : Bool) (l m p q : ℕ) → q ≡ p * 2 → l < p → m < p
    → int_lt (cond t (pos (l + p * digit t) -ℤ pos q) (pos (l + p * digit t))) (cond u (pos (m + p * digit u) -ℤ pos q) (pos (m + p * digit u)))
    ≡ ltb (l + p * digit (not t)) (m + p * digit (not u))
signed_order true true l m p q e h k =
    same_order (pos (l + p * 1) -ℤ pos q) (pos (m + p * 1) -ℤ pos q) (l + p * 0) (m + p * 0) (λ (i : (pos (l + p * 1) -ℤ pos q) <ℤ (pos (m + p * 1) -ℤ pos q)). omega (arith, ints)) (λ (i : l + p * 0 < m + p * 0). omega (arith, ints))
signed_order true false l m p q e h k =
    same_order (pos (l + p * 1) -ℤ pos q) (pos (m + p * 0)) (l + p * 0) (m + p * 1) (λ (i : (pos (l + p * 1) -ℤ pos q) <ℤ (pos (m + p * 0))). omega (arith, ints)) (λ (i : l + p * 0 < m + p * 1). omega (arith, ints))
signed_order false true l m p q e h k =
    same_order (pos (l + p * 0)) (pos (m + p * 1) -ℤ pos q) (l + p * 1) (m + p * 0) (λ (i : (pos (l + p * 0)) <ℤ (pos (m + p * 1) -ℤ pos q)). omega (arith, ints)) (λ (i : l + p * 1 < m + p * 0). omega (arith, ints))
signed_order false false l m p q e h k =
    same_order (pos (l + p * 0)) (pos (m + p * 0)) (l + p * 1) (m + p * 1) (λ (i : (pos (l + p * 0)) <ℤ (pos (m + p * 0))). omega (arith, ints)) (λ (i : l + p * 1 < m + p * 1). omega (arith, ints))

-- the number of a word read as signed, by its lower bits and its top one
signed_by : (xs : List Bool) → 0 < length xs → signed_value (length xs) (number xs) ≡ cond (top bits xs) (pos (number (take (length xs - 1) xs) + 2 ^ (length xs - 1) * digit (top bits xs)) -ℤ pos (2 ^ length xs)) (pos (number (take (length xs - 1) xs) + 2 ^ (length xs - 1) * digit (top bits xs)))
signed_by xs h =
    ap (λ b. cond b (pos (number xs) -ℤ pos (2 ^ length xs)) (pos (number xs))) (top_is xs h)
    ∙ ap (λ n. cond (top bits xs) (pos n -ℤ pos (2 ^ length xs)) (pos n)) (top_number xs h)

doubled : (w : ℕ) → 0 < w → 2 ^ w ≡ 2 ^ (w - 1) * 2
doubled w h = let e : w ≡ suc (w - 1) = omega arith in ap (λ k. 2 ^ k) e ∙ pow-suc 2 (w - 1)

pub below_signed :
    (xs ys : List Bool) → length xs ≡ length ys → 0 < length xs
    → (below bits tt false (top_inverted bits xs) (top_inverted bits ys)).1 ≡ int_lt (signed_value (length xs) (number xs)) (signed_value (length ys) (number ys))
below_signed xs ys h k =
    let some : 0 < length ys = omega arith in
    let low = take_below (length ys - 1) ys (omega arith) in
    let l : ℕ = number (take (length xs - 1) xs) in
    let m : ℕ = number (take (length ys - 1) ys) in
    let p : ℕ = 2 ^ (length xs - 1) in
    let widths : 2 ^ (length ys - 1) ≡ p = ap (λ w. 2 ^ (w - 1)) (sym h) in
    below_unsigned (top_inverted bits xs) (top_inverted bits ys) (inverted_width xs (not (top bits xs)) k ∙ (h ∙ sym (inverted_width ys (not (top bits ys)) some)))
    ∙ (ap (λ n. ltb n (number (top_inverted bits ys))) (inverted_top xs k)
    ∙ (ap (λ n. ltb (l + p * digit (not (top bits xs))) n) (inverted_top ys some ∙ ap (λ w. m + w * digit (not (top bits ys))) widths)
    ∙ (sym (signed_order (top bits xs) (top bits ys) l m p (2 ^ length xs) (doubled (length xs) k) (take_below (length xs - 1) xs (omega arith)) (rw widths at low))
    ∙ (ap (λ z. int_lt z (cond (top bits ys) (pos (m + p * digit (top bits ys)) -ℤ pos (2 ^ length xs)) (pos (m + p * digit (top bits ys))))) (sym (signed_by xs k))
    ∙ ap (int_lt (signed_value (length xs) (number xs)))
    (sym (signed_by ys some
    ∙ (ap (λ w. cond (top bits ys) (pos (m + w * digit (top bits ys)) -ℤ pos (2 ^ length ys)) (pos (m + w * digit (top bits ys)))) widths
    ∙ ap (λ w. cond (top bits ys) (pos (m + p * digit (top bits ys)) -ℤ pos (2 ^ w)) (pos (m + p * digit (top bits ys)))) (sym h))))))))

-- the opposite of an order
pub not_below : (a b : ℕ) → not (ltb b a) ≡ leb a b
not_below a b = grind (arith, nat_tests)

pub not_under : (a b : ℤ) → not (int_lt b a) ≡ int_le a b
not_under a b = grind (arith, ints)
