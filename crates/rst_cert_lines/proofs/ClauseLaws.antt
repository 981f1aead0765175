-- Clauses.
use Rattle.std.proofs.Common.{◌≡◌, ℕ, ℤ, pos, negsuc, zero, suc, ◌+◌, ◌≤◌, ◌<◌, ◌^◌, Bool, true, false, cond, bytes_eq, Option, Some, None, List, [], ◌∷◌, ◌++◌, length, codes, refl, sym, ap, subst, ◌∙◌, arith, append_assoc, append-nil, length-append}
use Rattle.std.specs.List.{flat_map, AllByRecursion}
use Rattle.std.specs.Fmt.{signed_decimal}
use Rattle.std.proofs.lemmas.Fmt.{decimal_is_IsNumeral}
use Rattle.std.proofs.lemmas.Slice.Eq.{bytes_eq-Decides}
use Rattle.rst_certificate.specs.Words.{literal_text, clause_text}
use Rattle.rst_certificate.specs.CertText.{clause_line}
use Rattle.rst_cert_lines.specs.Reading.{Read, ◌>>=◌, after, literal_at, one_at, literals_with, literals_behind}
use Rattle.rst_cert_lines.specs.Readers.{clause_at}
use Rattle.rst_cert_lines.specs.Fits.{IsLiteral}
use Rattle.rst_cert_lines.proofs.Binds.{the_some, no_some, bind_some, bind_go}
use Rattle.rst_cert_lines.proofs.WordLaws.{after_takes, after_again}
use Rattle.rst_cert_lines.proofs.NumberLaws.{literal_takes, literal_again}

-- what the text of an option of a literal is: of none, the 0 that ends a clause
abbrev pub one_text : Option ℤ → List ℕ
one_text None = codes "0"
one_text (Some literal) = literal_text literal

abbrev pub IsOne : Option ℤ → Type 0
IsOne None = Unit {0}
IsOne (Some literal) = IsLiteral literal

-- the rest behind a clause's end is empty
abbrev pub IsLast : Option ℤ → List ℕ → Type 0
IsLast None rest = rest ≡ []
IsLast (Some literal) rest = Unit {0}

pub record TakesOne (text : List ℕ) (it : Option ℤ × List ℕ) : Type 0 where
  pub parts : text ≡ one_text it.0 ++ it.1
  pub fits : IsOne it.0
  pub last : IsLast it.0 it.1

abbrev more_at : List ℕ → Read (Option ℤ)
more_at text = literal_at text >>= λ literal. after (codes " ") literal.1 >>= λ space. Some (Some literal.0, space.1)

more_takes : (text : List ℕ) (it : Option ℤ × List ℕ) → more_at text ≡ Some it → TakesOne text it
more_takes text it e =
    let p = bind_some (literal_at text) (λ (literal : ℤ × List ℕ). after (codes " ") literal.1 >>= λ space. Some (Some literal.0, space.1)) it e in
    let q = bind_some (after (codes " ") p.0.1) (λ (space : Unit {0} × List ℕ). Some (Some p.0.0, space.1)) it p.2 in
    let read = literal_takes text p.0 p.1 in
    let space = after_takes (codes " ") p.0.1 q.0 q.1 in
    subst (TakesOne text) (the_some (Some p.0.0, q.0.1) it q.2) (record {
      parts = read.0 ∙ ap (λ (r : List ℕ). signed_decimal p.0.0 ++ r) space ∙ sym (append_assoc (signed_decimal p.0.0) (32 ∷ []) q.0.1);
      fits = read.1;
      last = tt;
    })

one_takes_by : (x : Bool) (text : List ℕ) (it : Option ℤ × List ℕ) → x ≡ bytes_eq text (codes "0") → cond x (Some (None, [])) (more_at text) ≡ Some it → TakesOne text it
one_takes_by true text it is e =
    let same = (bytes_eq-Decides text (codes "0")).0 (sym is) in
    subst (TakesOne text) (the_some (None, []) it e) (record { parts = same; fits = tt; last = refl })
one_takes_by false text it is e = more_takes text it e

-- what was read off is a literal with its space, or the end
pub one_takes : (text : List ℕ) (it : Option ℤ × List ℕ) → one_at text ≡ Some it → TakesOne text it
unfolding one_at
one_takes text it e = one_takes_by (bytes_eq text (codes "0")) text it refl e

-- what was read of literals: those before, and more, whose clause the text is
record TakesAll (before : List ℤ) (text : List ℕ) (it : List ℤ × List ℕ) : Type 0 where
  more : List ℤ
  whole : it.0 ≡ before ++ more
  each : AllByRecursion IsLiteral more
  parts : text ≡ clause_text more
  last : it.1 ≡ []

with_takes : (most : ℕ) (before : List ℤ) (text : List ℕ) (one : Read (Option ℤ)) (it : List ℤ × List ℕ)
    → ((found : Option ℤ × List ℕ) → one ≡ Some found → TakesOne text found)
    → ((before : List ℤ) (text : List ℕ) → literals_behind most before text ≡ Some it → TakesAll before text it)
    → literals_with (literals_behind most) before one ≡ Some it → TakesAll before text it
with_takes most before text None it read others e = absurd (no_some it e)
with_takes most before text (Some (None, rest)) it read others e =
    let took = read (None, rest) refl in
    subst (TakesAll before text) (the_some (before, rest) it e) (record {
      more = [];
      whole = sym (append-nil before);
      each = tt;
      parts = took.parts ∙ ap (λ (r : List ℕ). 48 ∷ r) took.last;
      last = took.last;
    })
with_takes most before text (Some (Some literal, rest)) it read others e =
    let took = read (Some literal, rest) refl in
    let all = others (before ++ literal ∷ []) rest e in
    record {
      more = literal ∷ all.more;
      whole = all.whole ∙ append_assoc before (literal ∷ []) all.more;
      each = (took.fits, all.each);
      parts = took.parts ∙ ap (λ (r : List ℕ). literal_text literal ++ r) all.parts ∙ sym (append_assoc (literal_text literal) (flat_map literal_text all.more) (48 ∷ []));
      last = all.last;
    }

behind_takes : (most : ℕ) (before : List ℤ) (text : List ℕ) (it : List ℤ × List ℕ) → literals_behind most before text ≡ Some it → TakesAll before text it
behind_takes zero before text it e = absurd (no_some it e)
behind_takes (suc most) before text it e = with_takes most before text (one_at text) it (λ found f. one_takes text found f) (λ b t f. behind_takes most b t it f) e

-- what was read off is a clause, and all of the line
pub clause_takes : (text : List ℕ) (it : List ℤ × List ℕ) → clause_at text ≡ Some it → (text ≡ clause_line it.0 ++ it.1) × AllByRecursion IsLiteral it.0
unfolding clause_at
clause_takes text it e =
    let p = bind_some (after (codes "clause ") text) (λ (first : Unit {0} × List ℕ). literals_behind (length first.1) [] first.1) it e in
    let all = behind_takes (length p.0.1) [] p.0.1 it p.2 in (
      after_takes (codes "clause ") text p.0 p.1
          ∙ ap (λ (r : List ℕ). codes "clause " ++ r) (all.parts ∙ ap clause_text (sym all.whole) ∙ sym (append-nil (clause_text it.0)) ∙ ap (λ (r : List ℕ). clause_text it.0 ++ r) (sym all.last)),
      subst (AllByRecursion IsLiteral) (sym all.whole) all.each,
    )

-- a literal with its space isn't the end of a clause
no_end_by : (x : Bool) (text : List ℕ) → x ≡ bytes_eq text (codes "0") → 2 ≤ length text → x ≡ false
no_end_by true text is long =
    let same = (bytes_eq-Decides text (codes "0")).0 (sym is) in
    let count : length text ≡ 1 = ap length same in
    absurd (omega (arith, long, count))
no_end_by false text is long = refl

literal_has_digits : (literal : ℤ) → IsLiteral literal → 0 < length (signed_decimal literal)
literal_has_digits (pos n) h = let small : n < 2 ^ 64 = omega (arith, h.1) in (decimal_is_IsNumeral n small).0.0
literal_has_digits (negsuc n) h = omega arith

-- a literal with its space is read off
pub one_again : (literal : ℤ) (rest : List ℕ) → IsLiteral literal → one_at (literal_text literal ++ rest) ≡ Some (Some literal, rest)
unfolding one_at
one_again literal rest h =
    let text = literal_text literal ++ rest in
    let some = literal_has_digits literal h in
    let first = length-append (signed_decimal literal) (32 ∷ []) in
    let second = length-append (literal_text literal) rest in
    let long : 2 ≤ length (literal_text literal ++ rest) = omega (arith, some, first, second) in
    let next : ℤ × List ℕ → Read (Option ℤ) = λ it. after (codes " ") it.1 >>= λ space. Some (Some it.0, space.1) in
    rw (no_end_by (bytes_eq text (codes "0")) text refl long) (
    ap (λ (t : List ℕ). literal_at t >>= next) (append_assoc (signed_decimal literal) (32 ∷ []) rest)
    ∙ bind_go (literal_at (signed_decimal literal ++ 32 ∷ rest)) next (literal, 32 ∷ rest) (literal_again literal (32 ∷ rest) h refl)
    ∙ bind_go (after (codes " ") (32 ∷ rest)) (λ (space : Unit {0} × List ℕ). Some (Some literal, space.1)) (tt, rest) (after_again (codes " ") rest)
    )

pub end_again : one_at (codes "0") ≡ Some (None, [])
unfolding one_at
end_again = refl

behind_again : (most : ℕ) (before more : List ℤ) → AllByRecursion IsLiteral more → length more < most → literals_behind most before (clause_text more) ≡ Some (before ++ more, [])
behind_again zero before more h enough = absurd (omega (arith, enough))
behind_again (suc most) before [] h enough =
    ap (literals_with (literals_behind most) before) end_again ∙ ap (λ (all : List ℤ). Some (all, [])) (sym (append-nil before))
behind_again (suc most) before (literal ∷ more) h enough =
    ap (λ (t : List ℕ). literals_with (literals_behind most) before (one_at t)) (append_assoc (literal_text literal) (flat_map literal_text more) (48 ∷ []))
    ∙ ap (literals_with (literals_behind most) before) (one_again literal (clause_text more) h.0)
    ∙ behind_again most (before ++ literal ∷ []) more h.1 (omega (arith, enough))
    ∙ ap (λ (all : List ℤ). Some (all, [])) (append_assoc before (literal ∷ []) more)

-- a clause has a byte a literal, and one more
clause_is_long : (more : List ℤ) → length more < length (clause_text more)
clause_is_long [] = omega arith
clause_is_long (literal ∷ more) =
    let others = clause_is_long more in
    let whole = append_assoc (literal_text literal) (flat_map literal_text more) (48 ∷ []) in
    let count : length (clause_text (literal ∷ more)) ≡ length (literal_text literal) + length (clause_text more) = ap length whole ∙ length-append (literal_text literal) (clause_text more) in
    let some = length-append (signed_decimal literal) (32 ∷ []) in
    omega (arith, others, count, some)

-- a clause is read off
pub clause_again : (clause : List ℤ) → AllByRecursion IsLiteral clause → clause_at (clause_line clause) ≡ Some (clause, [])
unfolding clause_at
clause_again clause h =
    bind_go (after (codes "clause ") (codes "clause " ++ clause_text clause)) (λ (first : Unit {0} × List ℕ). literals_behind (length first.1) [] first.1) (tt, clause_text clause)
    (after_again (codes "clause ") (clause_text clause))
    ∙ behind_again (length (clause_text clause)) [] clause h (clause_is_long clause)
