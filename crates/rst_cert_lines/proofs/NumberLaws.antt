-- Numbers and literals are read where they stand.
use Rattle.std.proofs.Common.{◌≡◌, ◌==◌, ℕ, ℤ, pos, negsuc, suc, ◌-◌, ◌≤◌, ◌<◌, ◌^◌, Bool, true, false, cond, ◌&&◌, bytes_eq, nat_lt, nat_le, Some, None, List, [], ◌∷◌, ◌++◌, length, drop, refl, sym, ap, subst, ◌∙◌, arith}
use Rattle.std.specs.Fmt.{decimal, signed_decimal}
use Rattle.std.specs.Str.Parse.{digits_value, AllDigits}
use Rattle.std.proofs.lemmas.Fmt.{decimal_is_IsNumeral}
use Rattle.std.proofs.lemmas.Bool.{ltb-true, lt-ltb, leb-true, le-leb, eqb-true, eq-eqb}
use Rattle.std.specs.Char.{digit_value}
use Rattle.std.proofs.lemmas.Str.Parse.{digit_from_value}
use Rattle.std.proofs.lemmas.Slice.Eq.{bytes_eq-Decides}
use Rattle.std.proofs.Math.Seq.{drop-append_seam}
use Rattle.rst_cert_lines.specs.Reading.{Read, after, word_of, number_at, negative_in, positive_in, negative_at, positive_at, signed_by, literal_at}
use Rattle.rst_cert_lines.specs.Fits.{Ends, IsLiteral}
use Rattle.rst_cert_lines.proofs.Binds.{chosen, both_true, bind_some, bind_go}
use Rattle.rst_cert_lines.proofs.Fronts.{number_front}
use Rattle.rst_cert_lines.proofs.WordLaws.{after_takes, after_again}

-- a word, and what stands behind it
word_parts_by : (x : Bool) (b : ℕ) (text : List ℕ) → word_of text ++ drop (length (word_of text)) text ≡ text
    → cond x [] (b ∷ word_of text) ++ drop (length (cond x [] (b ∷ word_of text))) (b ∷ text) ≡ b ∷ text
word_parts_by true b text others = refl
word_parts_by false b text others = ap (λ (bs : List ℕ). b ∷ bs) others

word_parts : (text : List ℕ) → word_of text ++ drop (length (word_of text)) text ≡ text
word_parts [] = refl
word_parts (b ∷ text) = word_parts_by (b == 32) b text (word_parts text)

-- what was read off is a number's digits
pub number_takes : (text : List ℕ) (it : ℕ × List ℕ) → number_at text ≡ Some it → (text ≡ decimal it.0 ++ it.1) × (it.0 < 2 ^ 64)
unfolding number_at
number_takes text it e =
    let value = digits_value 10 (word_of text) in
    let p = chosen (nat_lt value (2 ^ 64) && bytes_eq (decimal value) (word_of text)) (value, drop (length (word_of text)) text) it e in
    let q = both_true (nat_lt value (2 ^ 64)) (bytes_eq (decimal value) (word_of text)) p.0 in
    let same = (bytes_eq-Decides (decimal value) (word_of text)).0 q.1 in (
      sym (word_parts text) ∙ ap (λ word. word ++ drop (length (word_of text)) text) (sym same) ∙ ap (λ (pair : ℕ × List ℕ). decimal pair.0 ++ pair.1) p.1,
      subst (λ (pair : ℕ × List ℕ). pair.0 < 2 ^ 64) p.1 (ltb-true value (2 ^ 64) q.0),
    )

-- the bytes up to a space are digits where digits stand there

digit_is_no_space : (c : ℕ) (x : Bool) → x ≡ (c == 32) → digit_value c < 10 → x ≡ false
digit_is_no_space c true e small = let range = digit_from_value c small in let is = eqb-true c 32 (sym e) in absurd (omega (arith, range, is))
digit_is_no_space c false e small = refl

ends_word : (rest : List ℕ) → Ends rest → word_of rest ≡ []
ends_word [] h = refl
ends_word (b ∷ text) h = rw (eq-eqb b 32 h) refl

digits_word : (digits rest : List ℕ) → AllDigits 10 digits → Ends rest → word_of (digits ++ rest) ≡ digits
digits_word [] rest h k = ends_word rest k
digits_word (c ∷ digits) rest h k = rw (digit_is_no_space c (c == 32) refl h.0) (ap (λ (bs : List ℕ). c ∷ bs) (digits_word digits rest h.1 k))

-- a number is read off
pub number_again : (number : ℕ) (rest : List ℕ) → number < 2 ^ 64 → Ends rest → number_at (decimal number ++ rest) ≡ Some (number, rest)
number_again number rest small ends =
    let word = digits_word (decimal number) rest (decimal_is_IsNumeral number small).0.1 ends in
    number_front number (decimal number ++ rest) small (sym word)
    ∙ ap (λ (w : List ℕ). Some (number, drop (length w) (decimal number ++ rest))) word
    ∙ ap (λ (r : List ℕ). Some (number, r)) (drop-append_seam (decimal number) rest)

negative_takes : (text : List ℕ) (it : ℤ × List ℕ) → negative_at text ≡ Some it → (45 ∷ text ≡ signed_decimal it.0 ++ it.1) × IsLiteral it.0
unfolding negative_at
negative_takes text it e =
    let p = bind_some (number_at text) negative_in it e in
    let n = p.0.0 in
    let q = chosen (nat_lt 0 n && nat_le n (2 ^ 31)) (negsuc (n - 1), p.0.1) it p.2 in
    let r = both_true (nat_lt 0 n) (nat_le n (2 ^ 31)) q.0 in
    let some = ltb-true 0 n r.0 in
    let fits = leb-true n (2 ^ 31) r.1 in
    let read = number_takes text p.0 p.1 in
    let whole : suc (n - 1) ≡ n = omega (arith, some) in
    let P : ℤ × List ℕ → Type 0 = λ pair. (45 ∷ text ≡ signed_decimal pair.0 ++ pair.1) × IsLiteral pair.0 in
    subst P q.1 (
      ap (λ (bs : List ℕ). 45 ∷ bs) (read.0 ∙ ap (λ (k : ℕ). decimal k ++ p.0.1) (sym whole)),
      omega (arith, some, fits),
    )

positive_takes : (text : List ℕ) (it : ℤ × List ℕ) → positive_at text ≡ Some it → (text ≡ signed_decimal it.0 ++ it.1) × IsLiteral it.0
unfolding positive_at
positive_takes text it e =
    let p = bind_some (number_at text) positive_in it e in
    let n = p.0.0 in
    let q = chosen (nat_lt 0 n && nat_lt n (2 ^ 31)) (pos n, p.0.1) it p.2 in
    let r = both_true (nat_lt 0 n) (nat_lt n (2 ^ 31)) q.0 in
    let P : ℤ × List ℕ → Type 0 = λ pair. (text ≡ signed_decimal pair.0 ++ pair.1) × IsLiteral pair.0 in
    subst P q.1 ((number_takes text p.0 p.1).0, (ltb-true 0 n r.0, ltb-true n (2 ^ 31) r.1))

literal_takes_by : (sign : Read (Unit {0})) (text : List ℕ) (it : ℤ × List ℕ) → ((found : Unit {0} × List ℕ) → sign ≡ Some found → text ≡ 45 ∷ found.1)
    → signed_by sign text ≡ Some it → (text ≡ signed_decimal it.0 ++ it.1) × IsLiteral it.0
literal_takes_by None text it is e = positive_takes text it e
literal_takes_by (Some found) text it is e = let p = negative_takes found.1 it e in (is found refl ∙ p.0, p.1)

-- what was read off is a literal's number
pub literal_takes : (text : List ℕ) (it : ℤ × List ℕ) → literal_at text ≡ Some it → (text ≡ signed_decimal it.0 ++ it.1) × IsLiteral it.0
unfolding literal_at
literal_takes text it e = literal_takes_by (after (45 ∷ []) text) text it (λ found f. after_takes (45 ∷ []) text found f) e

-- no minus stands in front of digits
no_minus : (c : ℕ) (text : List ℕ) → 48 ≤ c → after (45 ∷ []) (c ∷ text) ≡ None
unfolding after
no_minus c text high = no_minus_by (c == 45) refl where
  no_minus_by : (x : Bool) → x ≡ (c == 45) → cond {A = Read (Unit {0})} (x && true) (Some (tt, text)) None ≡ None
  no_minus_by true e = let is = eqb-true c 45 (sym e) in absurd (omega (arith, high, is))
  no_minus_by false e = refl

no_minus_digits : (digits rest : List ℕ) → 0 < length digits → AllDigits 10 digits → after (45 ∷ []) (digits ++ rest) ≡ None
no_minus_digits [] rest some h = absurd (omega (arith, some))
no_minus_digits (c ∷ digits) rest some h = no_minus c (digits ++ rest) (digit_from_value c h.0).0

-- a literal is read off
pub literal_again : (literal : ℤ) (rest : List ℕ) → IsLiteral literal → Ends rest → literal_at (signed_decimal literal ++ rest) ≡ Some (literal, rest)
unfolding literal_at negative_at positive_at
literal_again (pos n) rest fits ends =
    let small : n < 2 ^ 64 = omega (arith, fits.1) in
    let digits = decimal_is_IsNumeral n small in
    ap (λ (sign : Read (Unit {0})). signed_by sign (decimal n ++ rest)) (no_minus_digits (decimal n) rest digits.0.0 digits.0.1)
    ∙ bind_go (number_at (decimal n ++ rest)) positive_in (n, rest) (number_again n rest small ends)
    ∙ rw (lt-ltb 0 n fits.0, lt-ltb n (2 ^ 31) fits.1) refl
literal_again (negsuc n) rest fits ends =
    let small : suc n < 2 ^ 64 = omega (arith, fits) in
    let some : 0 < suc n = omega arith in
    let most : suc n ≤ 2 ^ 31 = omega (arith, fits) in
    let back : suc n - 1 ≡ n = omega arith in
    ap (λ (sign : Read (Unit {0})). signed_by sign (45 ∷ decimal (suc n) ++ rest)) (after_again (45 ∷ []) (decimal (suc n) ++ rest))
    ∙ bind_go (number_at (decimal (suc n) ++ rest)) negative_in (suc n, rest) (number_again (suc n) rest small ends)
    ∙ rw (lt-ltb 0 (suc n) some, le-leb (suc n) (2 ^ 31) most) (ap (λ (k : ℕ). Some (negsuc k, rest)) back)

-- a literal has no space
pub literal_word : (literal : ℤ) (rest : List ℕ) → IsLiteral literal → word_of (signed_decimal literal ++ 32 ∷ rest) ≡ signed_decimal literal
literal_word (pos n) rest fits =
    let small : n < 2 ^ 64 = omega (arith, fits.1) in
    digits_word (decimal n) (32 ∷ rest) (decimal_is_IsNumeral n small).0.1 refl
literal_word (negsuc n) rest fits =
    let small : suc n < 2 ^ 64 = omega (arith, fits) in
    ap (λ (bs : List ℕ). 45 ∷ bs) (digits_word (decimal (suc n)) (32 ∷ rest) (decimal_is_IsNumeral (suc n) small).0.1 refl)
