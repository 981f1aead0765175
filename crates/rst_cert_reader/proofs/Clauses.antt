-- A clause that is read literal by literal.
use Rattle.std.proofs.Common.{◌≡◌, ◌==◌, ◌≤◌, ◌<◌, ◌^◌, ℕ, ℤ, pos, negsuc, zero, suc, Bool, true, false, cond, bytes_eq, Option, None, Some, option_map, is_some, List, [], ◌∷◌, ◌++◌, length, drop, codes, refl, sym, ap, ◌∙◌, arith, append_assoc, append-nil, length-append}
use Rattle.std.specs.Fmt.{signed_decimal}
use Rattle.std.proofs.lemmas.Fmt.{length-decimal-le}
use Rattle.std.proofs.lemmas.Slice.Eq.{bytes_eq-Decides}
use Rattle.rst_certificate.specs.Words.{literal_text}
use Rattle.rst_cert_lines.specs.Reading.{Read, ◌>>=◌, after, word_of, literal_at, one_at, literals_with, literals_behind}
use Rattle.rst_cert_lines.specs.Readers.{clause_at}
use Rattle.rst_cert_lines.specs.Fits.{IsLiteral}
use Rattle.rst_cert_lines.proofs.Binds.{no_some, bind_go}
use Rattle.rst_cert_lines.proofs.WordLaws.{after_again}
use Rattle.rst_cert_lines.proofs.NumberLaws.{literal_takes, literal_again, literal_word}
use Rattle.rst_cert_lines.proofs.ClauseLaws.{TakesOne, one_takes, one_again, end_again}
use Rattle.rst_cert_reader.specs.declared.heading.Heading.{Heading}
use Rattle.rst_cert_reader.specs.declared.gathered.Gathered.{Gathered}
use Rattle.rst_cert_reader.specs.declared.section.Section.{Section}
use Rattle.rst_cert_reader.specs.declared.section.Section.TheVariants.{FreeSteps, Steps, Word, Equal, StateA, StateB, Blocked, Freed, SplitLog, LandLog, EscapeLog, StuckLog, Journal}
use Rattle.rst_cert_reader.specs.declared.stage.Stage.TheVariants.{Items, Endless}
use Rattle.rst_cert_reader.specs.Headings.{whole}
use Rattle.rst_cert_reader.specs.Sections.{with_first, with_second, is_clause}
use Rattle.rst_cert_reader.specs.Readings.{Reading, endless, bad_line, with_more, taken}
use Rattle.rst_cert_reader.specs.Kept.{clause_taken, clause_behind}
use Rattle.rst_cert_reader.specs.Keeping.{is_log}
use Rattle.rst_cert_reader.proofs.Adding.{whole_some}

none_by : (one : Read (Option ℤ)) → ((it : Option ℤ × List ℕ) → one ≡ Some it → ⊥) → one ≡ None
none_by None never = refl
none_by (Some it) never = absurd (never it refl)

-- what is left behind a literal is shorter
shrinks : (text : List ℕ) (literal : ℤ) (rest : List ℕ) → one_at text ≡ Some (Some literal, rest) → length rest < length text
shrinks text literal rest e =
    let same = ap length (one_takes text (Some literal, rest) e).parts in
    let whole = length-append (literal_text literal) rest in
    let word = length-append (signed_decimal literal) (32 ∷ []) in
    omega (arith, same, whole, word)

some_text : (text : List ℕ) (it : Option ℤ × List ℕ) → TakesOne text it → 0 < length text
some_text text (None, rest) took = let same = ap length took.parts in omega (arith, same)
some_text text (Some literal, rest) took =
    let same = ap length took.parts in
    let whole = length-append (literal_text literal) rest in
    let word = length-append (signed_decimal literal) (32 ∷ []) in
    omega (arith, same, whole, word)

none_in_none : (text : List ℕ) → length text ≤ 0 → one_at text ≡ None
none_in_none text few = none_by (one_at text) (λ it e. let some = some_text text it (one_takes text it e) in absurd (omega (arith, some, few)))

none_behind : (most : ℕ) (before : List ℤ) (text : List ℕ) → one_at text ≡ None → literals_behind most before text ≡ None
none_behind zero before text e = refl
none_behind (suc most) before text e = ap (literals_with (literals_behind most) before) e

enough_by : (m n : ℕ) (before : List ℤ) (text : List ℕ) (one : Read (Option ℤ)) → one ≡ one_at text → length text ≤ suc m → length text ≤ suc n
    → ((before : List ℤ) (rest : List ℕ) → length rest ≤ m → length rest ≤ n → literals_behind m before rest ≡ literals_behind n before rest)
    → literals_with (literals_behind m) before one ≡ literals_with (literals_behind n) before one
enough_by m n before text None is few less same = refl
enough_by m n before text (Some (None, rest)) is few less same = refl
enough_by m n before text (Some (Some literal, rest)) is few less same =
    let smaller = shrinks text literal rest (sym is) in
    same (before ++ literal ∷ []) rest (omega (arith, smaller, few)) (omega (arith, smaller, less))

-- as many literals as bytes are enough
enough : (m n : ℕ) (before : List ℤ) (text : List ℕ) → length text ≤ m → length text ≤ n → literals_behind m before text ≡ literals_behind n before text
enough zero n before text few less = sym (none_behind n before text (none_in_none text few))
enough (suc m) zero before text few less = none_behind (suc m) before text (none_in_none text less)
enough (suc m) (suc n) before text few less = enough_by m n before text (one_at text) refl few less (λ b rest f l. enough m n b rest f l)

next_by : (most : ℕ) (before : List ℤ) (text : List ℕ) (literal : ℤ) (rest : List ℕ) → one_at text ≡ Some (Some literal, rest) → length text ≤ most
    → literals_behind most before text ≡ literals_behind (length rest) (before ++ literal ∷ []) rest
next_by zero before text literal rest e few = let smaller = shrinks text literal rest e in absurd (omega (arith, smaller, few))
next_by (suc most) before text literal rest e few =
    let smaller = shrinks text literal rest e in
    ap (literals_with (literals_behind most) before) e ∙ enough most (length rest) (before ++ literal ∷ []) rest (omega (arith, smaller, few)) (omega arith)

-- a word

word_front_by : (x : Bool) (b : ℕ) (word rest : List ℕ) → cond x [] (b ∷ word_of word) ≡ b ∷ word → (word_of word ≡ word → word_of (word ++ rest) ≡ word ++ word_of rest)
    → cond x [] (b ∷ word_of (word ++ rest)) ≡ b ∷ (word ++ word_of rest)
word_front_by true b word rest e others = absurd (cc)
word_front_by false b word rest e others = ap (λ (bs : List ℕ). b ∷ bs) (others (ap (drop 1) e))

-- where no space stands in front, none stands before what follows
pub word_front : (word rest : List ℕ) → word_of word ≡ word → word_of (word ++ rest) ≡ word ++ word_of rest
word_front [] rest e = refl
word_front (b ∷ word) rest e = word_front_by (b == 32) b word rest e (λ f. word_front word rest f)

spaced : (word more : List ℕ) → word_of word ≡ word → word_of (word ++ 32 ∷ more) ≡ word
spaced word more e = word_front word (32 ∷ more) e ∙ append-nil word

pub word_grows : (word : List ℕ) (byte : ℕ) → (byte == 32) ≡ false → word_of word ≡ word → word_of (word ++ byte ∷ []) ≡ word ++ byte ∷ []
word_grows word byte other e = word_front word (byte ∷ []) e ∙ ap (λ (x : Bool). word ++ cond x [] (byte ∷ [])) other

-- the word in front of a literal with its space
literal_front : (literal : ℤ) (rest : List ℕ) → IsLiteral literal → word_of (literal_text literal ++ rest) ≡ signed_decimal literal
literal_front literal rest fits = ap word_of (append_assoc (signed_decimal literal) (32 ∷ []) rest) ∙ literal_word literal rest fits

-- a literal and a space are read off
literal_goes : (word : List ℕ) (literal : ℤ) (more : List ℕ) → whole (literal_at word) ≡ Some literal → one_at (word ++ 32 ∷ more) ≡ Some (Some literal, more)
literal_goes word literal more e =
    let took = literal_takes word (literal, []) (whole_some (literal_at word) literal e) in
    ap (λ (w : List ℕ). one_at (w ++ 32 ∷ more)) (took.0 ∙ append-nil (signed_decimal literal))
    ∙ ap one_at (sym (append_assoc (signed_decimal literal) (32 ∷ []) more))
    ∙ one_again literal more took.1

no_literal : (word more : List ℕ) → word_of word ≡ word → whole (literal_at word) ≡ None → (it : Option ℤ × List ℕ) → TakesOne (word ++ 32 ∷ more) it → ⊥
no_literal word more is none (None, rest) took =
    let parts : word ++ 32 ∷ more ≡ 48 ∷ [] = took.parts ∙ ap (λ (r : List ℕ). 48 ∷ r) took.last in
    let same : word ≡ 48 ∷ [] = sym (spaced word more is) ∙ ap word_of parts in
    let count : length (word ++ 32 ∷ more) ≡ 1 = ap length parts in
    let front : length word ≡ 1 = ap length same in
    let both = length-append word (32 ∷ more) in
    absurd (omega (arith, count, front, both))
no_literal word more is none (Some literal, rest) took =
    let same : word ≡ signed_decimal literal = sym (spaced word more is) ∙ ap word_of took.parts ∙ literal_front literal rest took.fits in
    let read : literal_at word ≡ Some (literal, []) = ap literal_at (same ∙ sym (append-nil (signed_decimal literal))) ∙ literal_again literal [] took.fits tt in
    no_some literal (sym none ∙ ap whole read)

-- the literals behind others, with one more and its space
pub literal_read : (literals : List ℤ) (word : List ℕ) (literal : ℤ) (more : List ℕ) → whole (literal_at word) ≡ Some literal
    → clause_behind literals (word ++ 32 ∷ more) ≡ clause_behind (literals ++ literal ∷ []) more
literal_read literals word literal more e =
    ap whole (next_by (length (word ++ 32 ∷ more)) literals (word ++ 32 ∷ more) literal more (literal_goes word literal more e) (omega arith))

-- a space behind what is no literal
pub literal_broken : (literals : List ℤ) (word more : List ℕ) → word_of word ≡ word → whole (literal_at word) ≡ None → clause_behind literals (word ++ 32 ∷ more) ≡ None
literal_broken literals word more is none =
    ap whole (none_behind (length (word ++ 32 ∷ more)) literals (word ++ 32 ∷ more)
    (none_by (one_at (word ++ 32 ∷ more)) (λ it e. no_literal word more is none it (one_takes (word ++ 32 ∷ more) it e))))

-- the end of a clause
pub clause_end : (literals : List ℤ) → clause_behind literals (codes "0") ≡ Some literals
clause_end literals = ap (λ (one : Read (Option ℤ)). whole (literals_with (literals_behind 0) literals one)) end_again

no_end : (word : List ℕ) → word_of word ≡ word → bytes_eq word (codes "0") ≡ false → (it : Option ℤ × List ℕ) → TakesOne word it → ⊥
no_end word is other (None, rest) took =
    let same : word ≡ codes "0" = took.parts ∙ ap (λ (r : List ℕ). 48 ∷ r) took.last in
    let equal = (bytes_eq-Decides word (codes "0")).1 same in
    cc
no_end word is other (Some literal, rest) took =
    let same : word ≡ signed_decimal literal = sym is ∙ ap word_of took.parts ∙ literal_front literal rest took.fits in
    let count = ap length same in
    let parts = ap length took.parts in
    let whole = length-append (literal_text literal) rest in
    let front = length-append (signed_decimal literal) (32 ∷ []) in
    absurd (omega (arith, count, parts, whole, front))

pub clause_broken : (literals : List ℤ) (word : List ℕ) → word_of word ≡ word → bytes_eq word (codes "0") ≡ false → clause_behind literals word ≡ None
clause_broken literals word is other =
    ap whole (none_behind (length word) literals word (none_by (one_at word) (λ it e. no_end word is other it (one_takes word it e))))

-- a word of 4,096 bytes is no literal, whatever follows

literal_length : (literal : ℤ) → IsLiteral literal → length (signed_decimal literal) ≤ 21
literal_length (pos n) fits =
    let small : n < 2 ^ 64 = omega (arith, fits.1) in
    let digits = length-decimal-le 20 n (omega arith) (omega (arith, small)) small in
    omega (arith, digits)
literal_length (negsuc n) fits =
    let small : suc n < 2 ^ 64 = omega (arith, fits) in
    let digits = length-decimal-le 20 (suc n) (omega arith) (omega (arith, small)) small in
    omega (arith, digits)

no_long : (word more : List ℕ) → word_of word ≡ word → 4096 ≤ length word → (it : Option ℤ × List ℕ) → TakesOne (word ++ more) it → ⊥
no_long word more is long (None, rest) took =
    let parts : word ++ more ≡ 48 ∷ [] = took.parts ∙ ap (λ (r : List ℕ). 48 ∷ r) took.last in
    let count : length (word ++ more) ≡ 1 = ap length parts in
    let both = length-append word more in
    absurd (omega (arith, count, both, long))
no_long word more is long (Some literal, rest) took =
    let same : word ++ word_of more ≡ signed_decimal literal = sym (word_front word more is) ∙ ap word_of took.parts ∙ literal_front literal rest took.fits in
    let count = ap length same in
    let both = length-append word (word_of more) in
    let few = literal_length literal took.fits in
    absurd (omega (arith, count, both, few, long))

pub long_broken : (literals : List ℤ) (word more : List ℕ) → word_of word ≡ word → 4096 ≤ length word → clause_behind literals (word ++ more) ≡ None
long_broken literals word more is long =
    ap whole (none_behind (length (word ++ more)) literals (word ++ more)
    (none_by (one_at (word ++ more)) (λ it e. no_long word more is long it (one_takes (word ++ more) it e))))

-- where a log has no end it doesn't matter which literals a clause has

abbrev endless_with : ℕ → Read (List ℤ) → Reading
endless_with number read = cond (is_some (whole read)) endless (bad_line number)

same_end : (number : ℕ) (before other : List ℤ) (rest : List ℕ) → endless_with number (Some (before, rest)) ≡ endless_with number (Some (other, rest))
same_end number before other [] = refl
same_end number before other (b ∷ rest) = refl

any_by : (most number : ℕ) (before other : List ℤ) (one : Read (Option ℤ))
    → ((before other : List ℤ) (rest : List ℕ) → endless_with number (literals_behind most before rest) ≡ endless_with number (literals_behind most other rest))
    → endless_with number (literals_with (literals_behind most) before one) ≡ endless_with number (literals_with (literals_behind most) other one)
any_by most number before other None same = refl
any_by most number before other (Some (None, rest)) same = same_end number before other rest
any_by most number before other (Some (Some literal, rest)) same = same (before ++ literal ∷ []) (other ++ literal ∷ []) rest

any_literals : (most number : ℕ) (before other : List ℤ) (text : List ℕ) → endless_with number (literals_behind most before text) ≡ endless_with number (literals_behind most other text)
any_literals zero number before other text = refl
any_literals (suc most) number before other text = any_by most number before other (one_at text) (λ b o rest. any_literals most number b o rest)

endless_is : (h : Heading) (g : Gathered) (number : ℕ) (clause : Option (List ℤ)) → cond (is_some clause) endless (bad_line number) ≡ clause_taken h g Endless number clause
endless_is h g number None = refl
endless_is h g number (Some clause) = refl

pub endless_any : (h : Heading) (g : Gathered) (number : ℕ) (before other : List ℤ) (text : List ℕ)
    → clause_taken h g Endless number (clause_behind before text) ≡ clause_taken h g Endless number (clause_behind other text)
endless_any h g number before other text =
    sym (endless_is h g number (clause_behind before text)) ∙ any_literals (length text) number before other text ∙ endless_is h g number (clause_behind other text)

-- the line of a clause

pub clause_line_is : (text : List ℕ) → whole (clause_at (codes "clause " ++ text)) ≡ clause_behind [] text
unfolding clause_at
clause_line_is text =
    ap whole (bind_go (after (codes "clause ") (codes "clause " ++ text)) (λ (first : Unit {0} × List ℕ). literals_behind (length first.1) [] first.1) (tt, text) (after_again (codes "clause ") text))

pub no_clause_line : (text : List ℕ) → after (codes "clause ") text ≡ None → whole (clause_at text) ≡ None
unfolding clause_at
no_clause_line text e = ap (λ (read : Read (Unit {0})). whole (read >>= λ first. literals_behind (length first.1) [] first.1)) e

first_is : (h : Heading) (g : Gathered) (section : Section) (left number : ℕ) (line : List ℕ) (clause : Option (List ℤ)) (made : List ℤ → Gathered)
    → ((clause : List ℤ) → clause_taken h g (Items section left) number (Some clause) ≡ with_more h section left number (Some (made clause)))
    → with_more h section left number (option_map made clause) ≡ clause_taken h g (Items section left) number clause
first_is h g section left number line None made is = refl
first_is h g section left number line (Some clause) made is = sym (is clause)

pub log_taken : (h : Heading) (g : Gathered) (section : Section) (left number : ℕ) (line : List ℕ) → is_log section ≡ true
    → taken h g (Items section left) number line ≡ clause_taken h g (Items section left) number (whole (clause_at line))
unfolding with_first with_second
log_taken h g SplitLog left number line log = first_is h g SplitLog left number line (whole (clause_at line)) (λ clause. record g { first = g.first ++ clause ∷ [] }) (λ clause. refl)
log_taken h g EscapeLog left number line log = first_is h g EscapeLog left number line (whole (clause_at line)) (λ clause. record g { first = g.first ++ clause ∷ [] }) (λ clause. refl)
log_taken h g LandLog left number line log = first_is h g LandLog left number line (whole (clause_at line)) (λ clause. record g { second = g.second ++ clause ∷ [] }) (λ clause. refl)
log_taken h g StuckLog left number line log = first_is h g StuckLog left number line (whole (clause_at line)) (λ clause. record g { second = g.second ++ clause ∷ [] }) (λ clause. refl)
log_taken h g FreeSteps left number line log = absurd (cc)
log_taken h g Steps left number line log = absurd (cc)
log_taken h g Word left number line log = absurd (cc)
log_taken h g Equal left number line log = absurd (cc)
log_taken h g StateA left number line log = absurd (cc)
log_taken h g StateB left number line log = absurd (cc)
log_taken h g Blocked left number line log = absurd (cc)
log_taken h g Freed left number line log = absurd (cc)
log_taken h g Journal left number line log = absurd (cc)

pub endless_taken : (h : Heading) (g : Gathered) (number : ℕ) (line : List ℕ) → taken h g Endless number line ≡ clause_taken h g Endless number (whole (clause_at line))
unfolding is_clause
endless_taken h g number line = endless_is h g number (whole (clause_at line))
