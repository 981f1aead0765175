-- Digits are read where they stand.
use Rattle.std.proofs.Common.{◌≡◌, ◌==◌, ℕ, ◌≤◌, Bool, true, false, ◌&&◌, ◌||◌, nat_le, Some, List, [], ◌∷◌, ◌++◌, length, map, take, drop, refl, sym, ap, ap₂, if◌then◌else◌, ◌∙◌, arith, length-append}
use Rattle.std.specs.List.{list_all}
use Rattle.std.proofs.lemmas.List.{take-append-drop, length-take-le, length-map}
use Rattle.std.proofs.lemmas.Bool.{leb-true, eqb-true}
use Rattle.std.proofs.Math.Seq.{drop-append_seam, take-append_seam}
use Rattle.rst_value.specs.declared.tern.Tern.{Tern}
use Rattle.rst_value.specs.declared.tern.Tern.TheVariants.{Zero, One, Unknown}
use Rattle.rst_certificate.specs.Words.{digit, place_digit}
use Rattle.rst_cert_lines.specs.Reading.{is_bit, bit_of, bits_at, is_place, place_of, places_at}
use Rattle.rst_cert_lines.proofs.Binds.{chosen, both_true}
use Rattle.rst_cert_lines.proofs.Fronts.{bits_front, places_front}

digit_back : (c : ℕ) (zero one : Bool) → zero ≡ (c == 48) → one ≡ (c == 49) → (zero || one) ≡ true → digit one ≡ c
digit_back c zero true z o e = sym (eqb-true c 49 (sym o))
digit_back c true false z o e = sym (eqb-true c 48 (sym z))
digit_back c false false z o e = absurd (cc)

digits_back : (digits : List ℕ) → list_all is_bit digits ≡ true → map digit (map bit_of digits) ≡ digits
digits_back [] e = refl
digits_back (c ∷ digits) e =
    let p = both_true (is_bit c) (list_all is_bit digits) e in
    ap₂ (λ (x : ℕ) (xs : List ℕ). x ∷ xs) (digit_back c (c == 48) (c == 49) refl refl p.0) (digits_back digits p.1)

-- what was read off are the digits
pub bits_take : (count : ℕ) (text : List ℕ) (it : List Bool × List ℕ) → bits_at count text ≡ Some it → (text ≡ map digit it.0 ++ it.1) × (length it.0 ≡ count)
unfolding bits_at
bits_take count text it e =
    let p = chosen (nat_le count (length text) && list_all is_bit (take count text)) (map bit_of (take count text), drop count text) it e in
    let q = both_true (nat_le count (length text)) (list_all is_bit (take count text)) p.0 in
    let fits = leb-true count (length text) q.0 in
    let parts = ap (λ (pair : List Bool × List ℕ). map digit pair.0 ++ pair.1) p.1 in (
      sym (take-append-drop count text) ∙ ap (λ digits. digits ++ drop count text) (sym (digits_back (take count text) q.1)) ∙ parts,
      sym (ap (λ (pair : List Bool × List ℕ). length pair.0) p.1) ∙ length-map (take count text) bit_of ∙ length-take-le count text fits,
    )

bit_again : (bit : Bool) → bit_of (digit bit) ≡ bit
bit_again true = refl
bit_again false = refl

bit_digit : (bit : Bool) → is_bit (digit bit) ≡ true
bit_digit true = refl
bit_digit false = refl

bits_back : (bits : List Bool) → map bit_of (map digit bits) ≡ bits
bits_back [] = refl
bits_back (bit ∷ bits) = ap₂ (λ (x : Bool) (xs : List Bool). x ∷ xs) (bit_again bit) (bits_back bits)

bits_digits : (bits : List Bool) → list_all is_bit (map digit bits) ≡ true
bits_digits [] = refl
bits_digits (bit ∷ bits) = rw (bit_digit bit) (bits_digits bits)

-- digits are read off
pub bits_again : (bits : List Bool) (rest : List ℕ) → bits_at (length bits) (map digit bits ++ rest) ≡ Some (bits, rest)
bits_again bits rest =
    let count : length (map digit bits) ≡ length bits = length-map bits digit in
    let front : take (length bits) (map digit bits ++ rest) ≡ map digit bits =
    ap (λ n. take n (map digit bits ++ rest)) (sym count) ∙ take-append_seam (map digit bits) rest in
    let back : drop (length bits) (map digit bits ++ rest) ≡ rest =
    ap (λ n. drop n (map digit bits ++ rest)) (sym count) ∙ drop-append_seam (map digit bits) rest in
    let fits : length bits ≤ length (map digit bits ++ rest) = (let sum = length-append (map digit bits) rest in omega arith) in
    bits_front (length bits) (map digit bits ++ rest) fits (ap (list_all is_bit) front ∙ bits_digits bits)
    ∙ ap₂ (λ (xs : List Bool) (ys : List ℕ). Some (xs, ys)) (ap (map bit_of) front ∙ bits_back bits) back

place_back : (c : ℕ) (zero one minus : Bool) → zero ≡ (c == 48) → one ≡ (c == 49) → minus ≡ (c == 45) → ((zero || one) || minus) ≡ true
    → place_digit (if zero then Zero else (if one then One else Unknown)) ≡ c
place_back c true one minus z o m e = sym (eqb-true c 48 (sym z))
place_back c false true minus z o m e = sym (eqb-true c 49 (sym o))
place_back c false false true z o m e = sym (eqb-true c 45 (sym m))
place_back c false false false z o m e = absurd (cc)

places_back : (digits : List ℕ) → list_all is_place digits ≡ true → map place_digit (map place_of digits) ≡ digits
places_back [] e = refl
places_back (c ∷ digits) e =
    let p = both_true (is_place c) (list_all is_place digits) e in
    ap₂ (λ (x : ℕ) (xs : List ℕ). x ∷ xs) (place_back c (c == 48) (c == 49) (c == 45) refl refl refl p.0) (places_back digits p.1)

-- what was read off are the digits
pub places_take : (count : ℕ) (text : List ℕ) (it : List Tern × List ℕ) → places_at count text ≡ Some it → (text ≡ map place_digit it.0 ++ it.1) × (length it.0 ≡ count)
unfolding places_at
places_take count text it e =
    let p = chosen (nat_le count (length text) && list_all is_place (take count text)) (map place_of (take count text), drop count text) it e in
    let q = both_true (nat_le count (length text)) (list_all is_place (take count text)) p.0 in
    let fits = leb-true count (length text) q.0 in
    let parts = ap (λ (pair : List Tern × List ℕ). map place_digit pair.0 ++ pair.1) p.1 in (
      sym (take-append-drop count text) ∙ ap (λ digits. digits ++ drop count text) (sym (places_back (take count text) q.1)) ∙ parts,
      sym (ap (λ (pair : List Tern × List ℕ). length pair.0) p.1) ∙ length-map (take count text) place_of ∙ length-take-le count text fits,
    )

place_again : (place : Tern) → place_of (place_digit place) ≡ place
place_again Zero = refl
place_again One = refl
place_again Unknown = refl

place_digits : (place : Tern) → is_place (place_digit place) ≡ true
place_digits Zero = refl
place_digits One = refl
place_digits Unknown = refl

cube_back : (places : List Tern) → map place_of (map place_digit places) ≡ places
cube_back [] = refl
cube_back (place ∷ places) = ap₂ (λ (x : Tern) (xs : List Tern). x ∷ xs) (place_again place) (cube_back places)

cube_digits : (places : List Tern) → list_all is_place (map place_digit places) ≡ true
cube_digits [] = refl
cube_digits (place ∷ places) = rw (place_digits place) (cube_digits places)

-- digits are read off
pub places_again : (places : List Tern) (rest : List ℕ) → places_at (length places) (map place_digit places ++ rest) ≡ Some (places, rest)
places_again places rest =
    let count : length (map place_digit places) ≡ length places = length-map places place_digit in
    let front : take (length places) (map place_digit places ++ rest) ≡ map place_digit places =
    ap (λ n. take n (map place_digit places ++ rest)) (sym count) ∙ take-append_seam (map place_digit places) rest in
    let back : drop (length places) (map place_digit places ++ rest) ≡ rest =
    ap (λ n. drop n (map place_digit places ++ rest)) (sym count) ∙ drop-append_seam (map place_digit places) rest in
    let fits : length places ≤ length (map place_digit places ++ rest) = (let sum = length-append (map place_digit places) rest in omega arith) in
    places_front (length places) (map place_digit places ++ rest) fits (ap (list_all is_place) front ∙ cube_digits places)
    ∙ ap₂ (λ (xs : List Tern) (ys : List ℕ). Some (xs, ys)) (ap (map place_of) front ∙ cube_back places) back
