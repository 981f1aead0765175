-- The parts of a based literal, and that a text has them in one way.
use Rattle.std.proofs.Common.{◌≡◌, ℕ, suc, ◌+◌, Bool, true, false, cond, List, [], ◌∷◌, ◌++◌, length, take, drop, Option, Some, None, inl, inr, ◌⊎◌, refl, sym, ap, subst, ◌∙◌, arith, take-append-drop, append_assoc, length-append}
use Rattle.std.specs.List.{prefix_len}
use Rattle.std.proofs.Math.Seq.{take-append_seam}
use Rattle.std.proofs.lemmas.List.Folds.{length-prefix_len}
use Rattle.std.proofs.lemmas.List.Prefix.{front_rest}
use Rattle.std.proofs.lemmas.Bool.{eqb-true}
use Rattle.std.proofs.lemmas.Bool.Decides.{nat_tests}
use Rattle.std.specs.Prelude.{◌||◌, ◌&&◌, ◌==◌, not}
use Rattle.rst_lex.specs.declared.front.Tail.{Tail}
use Rattle.rst_lex.specs.Bytes.{is_space, is_digit, is_decimal_byte, EachByte}
use Rattle.rst_lex.specs.Numbers.{IsSize, IsSign, IsDigitsBehind, is_digit_behind, Based, IsBased, based_text}
use Rattle.rst_lex.specs.Fronts.{begins_digits, letter_front, tail_front}
use Rattle.rst_lex.proofs.Shapes.{run_fits, same_front}

-- ---- runs that end

-- the bytes don't begin with one that passes
abbrev pub Stops : (ℕ → Bool) → List ℕ → Type 0
Stops p [] = Unit {0}
Stops p (b ∷ bs) = p b ≡ false

pub run_len : (p : ℕ → Bool) (xs rest : List ℕ) → EachByte p xs → Stops p rest → prefix_len p (xs ++ rest) ≡ length xs
run_len p [] [] e s = refl
run_len p [] (b ∷ rest) e s = rw s refl
run_len p (x ∷ xs) rest e s = let again = run_len p xs rest e.1 s in rw e.0 (omega arith)

pub run_stops : (p : ℕ → Bool) (bs : List ℕ) → Stops p (drop (prefix_len p bs) bs)
run_stops p [] = tt
run_stops p (b ∷ bs) = by_test (p b) refl (run_stops p bs)
  where
    by_test : (t : Bool) → p b ≡ t → Stops p (drop (prefix_len p bs) bs) → Stops p (drop (cond t (1 + prefix_len p bs) 0) (b ∷ bs))
    by_test true e again = let n : suc (prefix_len p bs) ≡ 1 + prefix_len p bs = omega arith in subst (λ k. Stops p (drop k (b ∷ bs))) n again
    by_test false e again = e

-- a text in front of what stops it
pub split_len : (p : ℕ → Bool) (text xs rest : List ℕ) → text ≡ xs ++ rest → EachByte p xs → Stops p rest → (prefix_len p text ≡ length xs) × (xs ≡ take (prefix_len p text) text) × (rest ≡ drop (prefix_len p text) text)
split_len p text xs rest e each s =
    let n : prefix_len p text ≡ length xs = ap (prefix_len p) e ∙ run_len p xs rest each s in
    (n, sym (ap (λ k. take k text) n ∙ ap (take (length xs)) e ∙ take-append_seam xs rest), sym (front_rest text xs rest e) ∙ ap (λ k. drop k text) (sym n))

-- ---- classes

digit_no_space : (letter b : ℕ) → is_digit_behind letter b ≡ true → is_space b ≡ false
digit_no_space letter b d = by_test (is_space b) refl
  where
    by_test : (t : Bool) → is_space b ≡ t → t ≡ false
    by_test true e = absurd (grind (arith, nat_tests))
    by_test false e = refl

letter_no_sign : (letter b : ℕ) → is_digit_behind letter b ≡ true → ((letter == 115) || (letter == 83)) ≡ false
letter_no_sign letter b d = by_test ((letter == 115) || (letter == 83)) refl
  where
    first : (letter == 115) ≡ true → is_digit_behind letter b ≡ false
    first e = ap (λ k. is_digit_behind k b) (eqb-true letter 115 e)

    second : (letter == 83) ≡ true → is_digit_behind letter b ≡ false
    second e = ap (λ k. is_digit_behind k b) (eqb-true letter 83 e)

    or_split : (s u : Bool) → (s || u) ≡ true → (s ≡ true) ⊎ (u ≡ true)
    or_split true u e = inl refl
    or_split false u e = inr e

    by_test : (t : Bool) → ((letter == 115) || (letter == 83)) ≡ t → t ≡ false
    by_test true e = elim (or_split (letter == 115) (letter == 83) e) [ inl h ↦ (let f = sym (first h) ∙ d in cc) | inr h ↦ (let f = sym (second h) ∙ d in cc) ]
    by_test false e = refl

space_no_decimal : (b : ℕ) → is_space b ≡ true → is_decimal_byte b ≡ false
space_no_decimal b s = by_test (is_decimal_byte b) refl
  where
    by_test : (t : Bool) → is_decimal_byte b ≡ t → t ≡ false
    by_test true e = absurd (grind (arith, nat_tests))
    by_test false e = refl

-- ---- behind the '

-- The text behind a ' has these parts of a based literal, and others behind.
pub record Splits (more sign : List ℕ) (letter : ℕ) (space digits behind : List ℕ) : Type 0 where
  pub parts : more ≡ sign ++ letter ∷ (space ++ (digits ++ behind))
  pub signed : IsSign sign
  pub spaced : EachByte is_space space
  pub given : IsDigitsBehind letter digits

pub digits_each : (letter : ℕ) (digits : List ℕ) → IsDigitsBehind letter digits → EachByte (is_digit_behind letter) digits
digits_each letter [] d = absurd d
digits_each letter (b ∷ bs) d = d.1

digits_stop : (letter : ℕ) (digits behind : List ℕ) → IsDigitsBehind letter digits → Stops is_space (digits ++ behind)
digits_stop letter [] behind d = absurd d
digits_stop letter (b ∷ bs) behind d = digit_no_space letter b d.1.0

no_underscore : (b : ℕ) → (b ≡ 95 → ⊥) → (b == 95) ≡ false
no_underscore b n = by_test (b == 95) refl
  where
    by_test : (t : Bool) → (b == 95) ≡ t → t ≡ false
    by_test true e = absurd (n (eqb-true b 95 e))
    by_test false e = refl

digits_begin : (letter : ℕ) (digits behind : List ℕ) → IsDigitsBehind letter digits → begins_digits letter (digits ++ behind) ≡ true
digits_begin letter [] behind d = absurd d
digits_begin letter (b ∷ bs) behind d = rw (d.1.0, no_underscore b d.0) refl

letter_is : (letter : ℕ) (digits : List ℕ) → IsDigitsBehind letter digits → ((letter == 115) || (letter == 83)) ≡ false
letter_is letter [] d = absurd d
letter_is letter (b ∷ bs) d = letter_no_sign letter b d.1.0

letter_of : (sign letter : ℕ) (space digits behind : List ℕ) → EachByte is_space space → IsDigitsBehind letter digits
    → letter_front sign (letter ∷ (space ++ (digits ++ behind))) ≡ Some (record { sign = sign; letter = letter; space = length space; digits = prefix_len (is_digit_behind letter) (digits ++ behind) })
unfolding letter_front
letter_of sign letter space digits behind s d =
    let after = digits ++ behind in
    let n : prefix_len is_space (space ++ after) ≡ length space = run_len is_space space after s (digits_stop letter digits behind d) in
    let rest : after ≡ drop (length space) (space ++ after) = sym (front_rest (space ++ after) space after refl) in
    let Made : ℕ → List ℕ → Option Tail = λ k bs. cond (begins_digits letter bs) (Some (record { sign = sign; letter = letter; space = k; digits = prefix_len (is_digit_behind letter) bs })) None in
    ap (λ k. Made k (drop k (space ++ after))) n ∙ ap (Made (length space)) (sym rest) ∙ ap (λ t. cond t (Some (record { sign = sign; letter = letter; space = length space; digits = prefix_len (is_digit_behind letter) after })) None) (digits_begin letter digits behind d)

-- what `tail_front` answers where the parts are there
pub tail_of : (more sign : List ℕ) (letter : ℕ) (space digits behind : List ℕ) → Splits more sign letter space digits behind
    → tail_front more ≡ Some (record { sign = length sign; letter = letter; space = length space; digits = prefix_len (is_digit_behind letter) (digits ++ behind) })
unfolding tail_front
tail_of more [] letter space digits behind s =
    ap tail_front s.parts ∙ ap (λ t. cond t (letter_front 1 (space ++ (digits ++ behind))) (letter_front 0 (letter ∷ (space ++ (digits ++ behind))))) (letter_is letter digits s.given)
    ∙ letter_of 0 letter space digits behind s.spaced s.given
tail_of more (b ∷ []) letter space digits behind s =
    ap tail_front s.parts ∙ ap (λ t. cond t (letter_front 1 (letter ∷ (space ++ (digits ++ behind)))) (letter_front 0 (b ∷ letter ∷ (space ++ (digits ++ behind))))) s.signed
    ∙ letter_of 1 letter space digits behind s.spaced s.given
tail_of more (b ∷ c ∷ sign) letter space digits behind s = absurd s.signed

-- The parts that `tail_front` finds; the digits are all that stand there.
pub record TailSays (more : List ℕ) (tail : Tail) : Type 0 where
  pub sign : List ℕ
  pub space : List ℕ
  pub digits : List ℕ
  pub behind : List ℕ
  pub splits : Splits more sign tail.letter space digits behind
  pub sign_len : length sign ≡ tail.sign
  pub space_len : length space ≡ tail.space
  pub digits_len : length digits ≡ tail.digits
  pub all_digits : prefix_len (is_digit_behind tail.letter) (digits ++ behind) ≡ length digits

digits_here : (letter : ℕ) (bs : List ℕ) → begins_digits letter bs ≡ true → IsDigitsBehind letter (take (prefix_len (is_digit_behind letter) bs) bs)
digits_here letter [] e = absurd cc
digits_here letter (b ∷ bs) e = by_test (is_digit_behind letter b) (b == 95) refl refl e (run_fits (is_digit_behind letter) bs)
  where
    p : ℕ → Bool
    p k = is_digit_behind letter k

    not_it : (b == 95) ≡ false → b ≡ 95 → ⊥
    not_it f h = let g : (b == 95) ≡ true = ap (λ k. k == 95) h in let k = sym f ∙ g in cc

    by_test : (t u : Bool) → is_digit_behind letter b ≡ t → (b == 95) ≡ u → (t && not u) ≡ true → EachByte (is_digit_behind letter) (take (prefix_len (is_digit_behind letter) bs) bs)
        → IsDigitsBehind letter (take (cond t (1 + prefix_len (is_digit_behind letter) bs) 0) (b ∷ bs))
    by_test true false et eu h all = let n : suc (prefix_len (is_digit_behind letter) bs) ≡ 1 + prefix_len (is_digit_behind letter) bs = omega arith in
        subst (λ k. IsDigitsBehind letter (take k (b ∷ bs))) n (not_it eu, (et, all))
    by_test true true et eu h all = absurd cc
    by_test false u et eu h all = absurd cc

-- what an answer of `letter_front` is
record LetterSays (sign letter : ℕ) (bs : List ℕ) (tail : Tail) : Type 0 where
  is : record { sign = sign; letter = letter; space = prefix_len is_space bs; digits = prefix_len (is_digit_behind letter) (drop (prefix_len is_space bs) bs) } ≡ tail
  begins : begins_digits letter (drop (prefix_len is_space bs) bs) ≡ true

same_some : (t u : Tail) → Some t ≡ Some u → t ≡ u
same_some t u e = cc

letter_says : (sign letter : ℕ) (bs : List ℕ) (tail : Tail) → letter_front sign (letter ∷ bs) ≡ Some tail → LetterSays sign letter bs tail
unfolding letter_front
letter_says sign letter bs tail e = by_test (begins_digits letter (drop (prefix_len is_space bs) bs)) refl e
  where
    made : Tail
    made = record { sign = sign; letter = letter; space = prefix_len is_space bs; digits = prefix_len (is_digit_behind letter) (drop (prefix_len is_space bs) bs) }

    by_test : (t : Bool) → begins_digits letter (drop (prefix_len is_space bs) bs) ≡ t
        → cond t (Some (record { sign = sign; letter = letter; space = prefix_len is_space bs; digits = prefix_len (is_digit_behind letter) (drop (prefix_len is_space bs) bs) })) None ≡ Some tail → LetterSays sign letter bs tail
    by_test true b e = record { is = same_some _ tail e; begins = b }
    by_test false b e = absurd cc

tail_made : (more sign : List ℕ) (letter : ℕ) (bs : List ℕ) (tail : Tail) → more ≡ sign ++ letter ∷ bs → IsSign sign → LetterSays (length sign) letter bs tail → TailSays more tail
tail_made more sign letter bs tail e g s =
    let k = prefix_len is_space bs in
    let after = drop k bs in
    let n = prefix_len (is_digit_behind letter) after in
    let whole : take n after ++ drop n after ≡ after = take-append-drop n after in
    subst (TailSays more) s.is (record {
      sign = sign;
      space = take k bs;
      digits = take n after;
      behind = drop n after;
      splits = record {
        parts = e ∙ ap (λ t. sign ++ letter ∷ t) (sym (take-append-drop k bs)) ∙ ap (λ t. sign ++ letter ∷ (take k bs ++ t)) (sym whole);
        signed = g;
        spaced = run_fits is_space bs;
        given = digits_here letter after s.begins;
      };
      sign_len = refl;
      space_len = length-prefix_len is_space bs;
      digits_len = length-prefix_len (is_digit_behind letter) after;
      all_digits = ap (prefix_len (is_digit_behind letter)) whole ∙ sym (length-prefix_len (is_digit_behind letter) after);
    })

pub tail_says : (more : List ℕ) (tail : Tail) → tail_front more ≡ Some tail → TailSays more tail
unfolding tail_front letter_front
tail_says [] tail e = absurd cc
tail_says (b ∷ bs) tail e = by_test ((b == 115) || (b == 83)) refl e
  where
    none : letter_front 1 [] ≡ None
    none = refl

    signed : (bs : List ℕ) → ((b == 115) || (b == 83)) ≡ true → letter_front 1 bs ≡ Some tail → TailSays (b ∷ bs) tail
    signed [] s e = let f = sym none ∙ e in absurd cc
    signed (letter ∷ rest) s e = tail_made (b ∷ letter ∷ rest) (b ∷ []) letter rest tail refl s (letter_says 1 letter rest tail e)

    by_test : (t : Bool) → ((b == 115) || (b == 83)) ≡ t → cond t (letter_front 1 bs) (letter_front 0 (b ∷ bs)) ≡ Some tail → TailSays (b ∷ bs) tail
    by_test true s e = signed bs s e
    by_test false s e = tail_made (b ∷ bs) [] b bs tail refl tt (letter_says 0 b bs tail e)

-- ---- one way

abbrev sign_of : Option Tail → ℕ
sign_of None = 0
sign_of (Some t) = t.sign

abbrev letter_in : Option Tail → ℕ
letter_in None = 0
letter_in (Some t) = t.letter

abbrev space_of : Option Tail → ℕ
space_of None = 0
space_of (Some t) = t.space

abbrev digits_of : Option Tail → ℕ
digits_of None = 0
digits_of (Some t) = t.digits

pub record SameParts (sign : List ℕ) (letter : ℕ) (space after sign' : List ℕ) (letter' : ℕ) (space' after' : List ℕ) : Type 0 where
  pub signs : sign ≡ sign'
  pub letters : letter ≡ letter'
  pub spaces : space ≡ space'
  pub afters : after ≡ after'

pub same_parts : (more sign : List ℕ) (letter : ℕ) (space digits behind sign' : List ℕ) (letter' : ℕ) (space' digits' behind' : List ℕ) → Splits more sign letter space digits behind → Splits more sign' letter' space' digits' behind'
    → SameParts sign letter space (digits ++ behind) sign' letter' space' (digits' ++ behind')
same_parts more sign letter space digits behind sign' letter' space' digits' behind' s t =
    let e = sym (tail_of more sign letter space digits behind s) ∙ tail_of more sign' letter' space' digits' behind' t in
    let signs = same_front sign sign' (letter ∷ (space ++ (digits ++ behind))) (letter' ∷ (space' ++ (digits' ++ behind'))) (sym s.parts ∙ t.parts) (ap sign_of e) in
    let tails : space ++ (digits ++ behind) ≡ space' ++ (digits' ++ behind') = same_rest letter letter' (space ++ (digits ++ behind)) (space' ++ (digits' ++ behind')) signs.1 in
    let spaces = same_front space space' (digits ++ behind) (digits' ++ behind') tails (ap space_of e) in
    record { signs = signs.0; letters = ap letter_in e; spaces = spaces.0; afters = spaces.1 }
  where
    same_rest : (a b : ℕ) (x y : List ℕ) → a ∷ x ≡ b ∷ y → x ≡ y
    same_rest a b x y e = cc

-- ---- before the '

quote_stops_space : (more : List ℕ) → Stops is_space (39 ∷ more)
quote_stops_space more = refl

gap_stops_decimal : (gap more : List ℕ) → EachByte is_space gap → Stops is_decimal_byte (gap ++ 39 ∷ more)
gap_stops_decimal [] more e = refl
gap_stops_decimal (b ∷ gap) more e = space_no_decimal b e.0

-- The parts before ' in a text that begins with a digit.
pub record HeadIs (a : ℕ) (bs size gap next : List ℕ) : Type 0 where
  pub size_is : size ≡ a ∷ take (prefix_len is_decimal_byte bs) bs
  pub gap_is : gap ≡ take (prefix_len is_space (drop (prefix_len is_decimal_byte bs) bs)) (drop (prefix_len is_decimal_byte bs) bs)
  pub next_is : next ≡ drop (prefix_len is_space (drop (prefix_len is_decimal_byte bs) bs)) (drop (prefix_len is_decimal_byte bs) bs)

pub head_is : (a : ℕ) (bs size gap more : List ℕ) → is_digit a ≡ true → a ∷ bs ≡ size ++ (gap ++ 39 ∷ more) → IsSize size gap → HeadIs a bs size gap (39 ∷ more)
head_is a bs [] gap more d e s =
    let whole : a ∷ bs ≡ 39 ∷ more = e ∙ ap (λ g. g ++ 39 ∷ more) s in
    let h : a ≡ 39 = cc in
    let f = ap is_digit (sym h) ∙ d in
    absurd cc
head_is a bs (x ∷ size) gap more d e s =
    let h : x ≡ a = cc in
    let tail : bs ≡ size ++ (gap ++ 39 ∷ more) = cc in
    let first = split_len is_decimal_byte bs size (gap ++ 39 ∷ more) tail s.0.1 (gap_stops_decimal gap more s.1) in
    let second = split_len is_space (drop (prefix_len is_decimal_byte bs) bs) gap (39 ∷ more) (sym first.2) s.1 (quote_stops_space more) in
    record { size_is = (λ i. h i ∷ first.1 i); gap_is = second.1; next_is = second.2 }

pub quote_is : (bs size gap more : List ℕ) → 39 ∷ bs ≡ size ++ (gap ++ 39 ∷ more) → IsSize size gap → (size ≡ []) × (gap ≡ []) × (more ≡ bs)
quote_is bs [] gap more e s =
    let whole : 39 ∷ bs ≡ 39 ∷ more = e ∙ ap (λ g. g ++ 39 ∷ more) s in
    let tail : more ≡ bs = cc in
    (refl, s, tail)
quote_is bs (x ∷ size) gap more e s = absurd (no_digit x (first x bs (size ++ (gap ++ 39 ∷ more)) e) s.0.0)
  where
    first : (x : ℕ) (bs more : List ℕ) → 39 ∷ bs ≡ x ∷ more → x ≡ 39
    first x bs more e = cc

    no_digit : (x : ℕ) → x ≡ 39 → is_digit x ≡ true → ⊥
    no_digit x h d = let f = ap is_digit (sym h) ∙ d in cc

-- ---- whole literals

-- There is one way to read what stands before '.
pub record OneHead (text size gap more : List ℕ) : Type 0 where
  pub parts : text ≡ size ++ (gap ++ 39 ∷ more)
  pub sized : IsSize size gap
  pub only : (size' gap' more' : List ℕ) → text ≡ size' ++ (gap' ++ 39 ∷ more') → IsSize size' gap' → (size' ≡ size) × (gap' ≡ gap) × (more' ≡ more)

pub based_behind : (b : Based) (behind : List ℕ) → based_text b ++ behind ≡ b.size ++ (b.gap ++ 39 ∷ (b.sign ++ b.letter ∷ (b.space ++ (b.digits ++ behind))))
based_behind b behind = simp append_assoc

pub length_based : (b : Based) → length (based_text b) ≡ length b.size + length b.gap + length b.sign + length b.space + length b.digits + 2
length_based b = simp (length-append) (omega arith)

pub record BasedParts (size gap more : List ℕ) (b : Based) (behind : List ℕ) : Type 0 where
  pub sizes : b.size ≡ size
  pub gaps : b.gap ≡ gap
  pub splits : Splits more b.sign b.letter b.space b.digits behind

-- any based literal at the front has these parts
pub based_parts : (text size gap more front behind : List ℕ) (b : Based) → OneHead text size gap more → text ≡ front ++ behind → IsBased front b → BasedParts size gap more b behind
based_parts text size gap more front behind b o e i =
    let whole = e ∙ ap (λ k. k ++ behind) i.text ∙ based_behind b behind in
    let one = o.only b.size b.gap (b.sign ++ b.letter ∷ (b.space ++ (b.digits ++ behind))) whole i.sized in
    record { sizes = one.0; gaps = one.1; splits = record { parts = sym one.2; signed = i.signed; spaced = i.spaced; given = i.digits } }
