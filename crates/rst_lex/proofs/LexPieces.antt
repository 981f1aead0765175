-- From what stands at the front of a text to its first piece.
use Rattle.std.proofs.Common.{◌≡◌, ℕ, ◌+◌, ◌<◌, ◌≤◌, Bool, true, false, cond, List, [], ◌∷◌, ◌++◌, length, take, drop, Result, Ok, Err, inl, inr, refl, sym, ap, subst, ◌∙◌, arith, append_assoc, length-append}
use Rattle.std.specs.Prelude.{nat_lt}
use Rattle.std.proofs.Math.Seq.{take-append_seam}
use Rattle.std.proofs.lemmas.List.Prefix.{front_rest}
use Rattle.rst_lex.specs.declared.front.Tail.{Tail}
use Rattle.rst_lex.specs.declared.front.Cause.{Cause}
use Rattle.rst_lex.specs.declared.front.Cause.TheVariants as causes
use Rattle.rst_lex.specs.declared.piece.Piece.{Piece}
use Rattle.rst_lex.specs.declared.piece.Piece.TheVariants as pieces
use Rattle.rst_lex.specs.declared.token.TokenKind.TheVariants as kinds
use Rattle.rst_lex.specs.declared.token.Literal.{Literal}
use Rattle.rst_lex.specs.Bytes.{EachByte}
use Rattle.rst_lex.specs.Words.{is_keyword, IsIdentifier}
use Rattle.rst_lex.specs.Marks.{IsMark}
use Rattle.rst_lex.specs.Numbers.{IsDecimal, IsSign, is_digit_behind, Based, IsBased, based_text}
use Rattle.rst_lex.specs.Literals.{width_of, is_signed, IsPlain, IsNone}
use Rattle.rst_lex.specs.Tokens.{IsSystem, IsToken, based, Begins}
use Rattle.rst_lex.specs.Lexing.{IsBasedText, no_number, too_wide, IsTokenOf}
use Rattle.rst_lex.specs.Pieces.{IsBasedAnswer, IsPiece, IsBasedPiece}
use Rattle.rst_lex.proofs.Shapes.{run_longest, same_front, same_begins}
use Rattle.rst_lex.proofs.Numbers.{digits_each, same_parts, based_behind, length_based, based_parts}
use Rattle.rst_lex.proofs.LexFronts.{WordSays, BasedSays}
use Rattle.rst_lex.proofs.Names.{make_name}

-- the bytes that a front says are those that the code takes
taken : (text bs rest : List ℕ) (n : ℕ) → text ≡ bs ++ rest → length bs ≡ n → take n text ≡ bs
taken text bs rest n e l = ap (λ k. take k text) (sym l) ∙ ap (take (length bs)) e ∙ take-append_seam bs rest

pub front_within : (Kind : List ℕ → Type 0) (n : ℕ) (text : List ℕ) → WordSays Kind n text → n ≤ length text
front_within Kind n text s = omega (arith, s.6, ap length s.4.parts, length-append s.0 s.1)

-- ---- words

kind_of_word : (bs : List ℕ) (t : Bool) → is_keyword bs ≡ t → IsIdentifier bs → IsTokenOf (cond t kinds.Keyword kinds.Name) bs
kind_of_word bs true k i = (i, k)
kind_of_word bs false k i = make_name bs i k

pub word_piece : (text : List ℕ) (n : ℕ) → WordSays IsIdentifier n text → IsPiece (pieces.Token (cond (is_keyword (take n text)) kinds.Keyword kinds.Name) n) text
word_piece text n s =
    let e = taken text s.0 s.1 n s.4.parts s.6 in
    subst (λ w. IsPiece (pieces.Token (cond (is_keyword w) kinds.Keyword kinds.Name) n) text) (sym e) (s.0, s.1, s.2, s.3, s.4, kind_of_word s.0 (is_keyword s.0) refl s.5, s.6)

pub system_piece : (text : List ℕ) (n : ℕ) → WordSays IsSystem n text → IsPiece (pieces.Token kinds.System n) text
system_piece text n s = (s.0, s.1, s.2, s.3, s.4, s.5, s.6)

pub mark_piece : (text : List ℕ) (n : ℕ) → WordSays IsMark n text → IsPiece (pieces.Token kinds.Mark n) text
mark_piece text n s = (s.0, s.1, s.2, s.3, s.4, s.5, s.6)

pub decimal_piece : (text : List ℕ) (n : ℕ) (l : Literal) → WordSays IsDecimal n text → IsPlain l (take n text) → IsPiece (pieces.Token (kinds.Number l) n) text
decimal_piece text n l s p =
    let e = taken text s.0 s.1 n s.4.parts s.6 in
    (s.0, s.1, s.2, s.3, s.4, inl (s.5, subst (IsPlain l) e p), s.6)

-- ---- based literals

-- the parts that were found
abbrev found : {text : List ℕ} {size gap : ℕ} {tail : Tail} → BasedSays text size gap tail → Based
found {text} {size} {gap} {tail} s = record { size = s.size; gap = s.gap; sign = s.says.sign; letter = tail.letter; space = s.says.space; digits = s.says.digits }

found_parts : (text : List ℕ) (size gap : ℕ) (tail : Tail) (s : BasedSays text size gap tail) → text ≡ based_text (found s) ++ s.says.behind
found_parts text size gap tail s = s.head.parts ∙ ap (λ m. s.size ++ (s.gap ++ 39 ∷ m)) s.says.splits.parts ∙ sym (based_behind (found s) s.says.behind)

found_based : (text : List ℕ) (size gap : ℕ) (tail : Tail) (s : BasedSays text size gap tail) → IsBased (based_text (found s)) (found s)
found_based text size gap tail s = record { text = refl; sized = s.head.sized; signed = s.says.splits.signed; spaced = s.says.splits.spaced; digits = s.says.splits.given }

found_len : (text : List ℕ) (size gap : ℕ) (tail : Tail) (s : BasedSays text size gap tail) → length (based_text (found s)) ≡ size + gap + tail.sign + tail.space + tail.digits + 2
found_len text size gap tail s = omega (arith, length_based (found s), s.size_is, s.gap_is, s.says.sign_len, s.says.space_len, s.says.digits_len)

based_len : (text : List ℕ) (size gap : ℕ) (tail : Tail) (s : BasedSays text size gap tail) (front behind : List ℕ) → text ≡ front ++ behind → IsBasedText front → length front ≤ length (based_text (found s))
based_len text size gap tail s front behind e t =
    let p = based_parts text s.size s.gap s.more front behind t.0 s.head e t.1 in
    let same = same_parts s.more t.0.sign t.0.letter t.0.space t.0.digits behind s.says.sign tail.letter s.says.space s.says.digits s.says.behind p.splits s.says.splits in
    let each = subst (λ k. EachByte (is_digit_behind k) t.0.digits) same.letters (digits_each t.0.letter t.0.digits p.splits.given) in
    let run = run_longest (is_digit_behind tail.letter) (s.says.digits ++ s.says.behind) t.0.digits behind (sym same.afters) each in
    omega (arith, ap length t.1.text, length_based t.0, length_based (found s), ap length p.sizes, ap length p.gaps, ap length same.signs, ap length same.spaces, run, s.says.all_digits)

begins_based : (text : List ℕ) (size gap : ℕ) (tail : Tail) (s : BasedSays text size gap tail) → Begins IsBasedText text (based_text (found s)) s.says.behind
begins_based text size gap tail s = record { parts = found_parts text size gap tail s; fits = (found s, found_based text size gap tail s); longest = λ front behind p t. based_len text size gap tail s front behind p t }

size_within : (text : List ℕ) (size gap : ℕ) (tail : Tail) (s : BasedSays text size gap tail) → length s.size ≤ length (based_text (found s))
size_within text size gap tail s = omega (arith, length_based (found s))

begins_token : (text : List ℕ) (size gap : ℕ) (tail : Tail) (s : BasedSays text size gap tail) → Begins IsToken text (based_text (found s)) s.says.behind
begins_token text size gap tail s = record {
  parts = found_parts text size gap tail s;
  fits = based (found s) (found_based text size gap tail s);
  longest = λ front behind p t. elim (s.first front behind p t) [ inl l ↦ omega (arith, l, size_within text size gap tail s) | inr b ↦ based_len text size gap tail s front behind p b ];
}

-- any longest based literal at the front has the size and the digits that were found
found_same : (text : List ℕ) (size gap : ℕ) (tail : Tail) (s : BasedSays text size gap tail) (cs rest : List ℕ) (b : Based) → Begins IsBasedText text cs rest → IsBased cs b → (b.size ≡ s.size) × (b.digits ≡ s.says.digits)
found_same text size gap tail s cs rest b g i =
    let p = based_parts text s.size s.gap s.more cs rest b s.head g.parts i in
    let same = same_parts s.more b.sign b.letter b.space b.digits rest s.says.sign tail.letter s.says.space s.says.digits s.says.behind p.splits s.says.splits in
    let one = same_begins IsBasedText text cs (based_text (found s)) rest s.says.behind g (begins_based text size gap tail s) in
    let lens : length b.digits ≡ length s.says.digits = omega (arith, ap length one.0, ap length i.text, length_based b, length_based (found s), ap length p.sizes, ap length p.gaps, ap length same.signs, ap length same.spaces) in
    (p.sizes, (same_front b.digits s.says.digits rest s.says.behind same.afters lens).0)

pub based_within : (text : List ℕ) (size gap : ℕ) (tail : Tail) → BasedSays text size gap tail → size + gap + 1 + tail.sign + 1 + tail.space + tail.digits ≤ length text
based_within text size gap tail s = omega (arith, found_len text size gap tail s, ap length (found_parts text size gap tail s), length-append (based_text (found s)) s.says.behind)

size_taken : (text : List ℕ) (size gap : ℕ) (tail : Tail) (s : BasedSays text size gap tail) → take size text ≡ s.size
size_taken text size gap tail s = taken text s.size (s.gap ++ 39 ∷ s.more) size s.head.parts s.size_is

-- what stands before the digits
abbrev before : Based → List ℕ
before b = b.size ++ (b.gap ++ 39 ∷ (b.sign ++ b.letter ∷ b.space))

digits_taken : (text : List ℕ) (size gap : ℕ) (tail : Tail) (s : BasedSays text size gap tail) → take tail.digits (drop (size + gap + tail.sign + tail.space + 2) text) ≡ s.says.digits
digits_taken text size gap tail s =
    let front = before (found s) in
    let len : length front ≡ size + gap + tail.sign + tail.space + 2 = length_before (found s) ∙ sizes in
    let parts : text ≡ front ++ (s.says.digits ++ s.says.behind) = found_parts text size gap tail s ∙ based_behind (found s) s.says.behind ∙ sym (before_is (found s) (s.says.digits ++ s.says.behind)) in
    let rest : drop (size + gap + tail.sign + tail.space + 2) text ≡ s.says.digits ++ s.says.behind = ap (λ k. drop k text) (sym len) ∙ front_rest text front (s.says.digits ++ s.says.behind) parts in
    taken (drop (size + gap + tail.sign + tail.space + 2) text) s.says.digits s.says.behind tail.digits rest s.says.digits_len
  where
    length_before : (b : Based) → length (before b) ≡ length b.size + length b.gap + length b.sign + length b.space + 2
    length_before b = simp (length-append) (omega arith)

    before_is : (b : Based) (more : List ℕ) → before b ++ more ≡ b.size ++ (b.gap ++ 39 ∷ (b.sign ++ b.letter ∷ (b.space ++ more)))
    before_is b more = simp append_assoc

    sizes : length s.size + length s.gap + length s.says.sign + length s.says.space + 2 ≡ size + gap + tail.sign + tail.space + 2
    sizes = omega (arith, s.size_is, s.gap_is, s.says.sign_len, s.says.space_len)

sign_is : (sign : List ℕ) → IsSign sign → nat_lt 0 (length sign) ≡ is_signed sign
sign_is [] s = refl
sign_is (b ∷ []) s = refl
sign_is (b ∷ c ∷ bs) s = absurd s

signed_is : (text : List ℕ) (size gap : ℕ) (tail : Tail) (s : BasedSays text size gap tail) → nat_lt 0 tail.sign ≡ is_signed s.says.sign
signed_is text size gap tail s = ap (nat_lt 0) (sym s.says.sign_len) ∙ sign_is s.says.sign s.says.splits.signed

-- the answer on what was found
answer_found : (text : List ℕ) (size gap : ℕ) (tail : Tail) (s : BasedSays text size gap tail) (r : Result Literal Cause)
    → IsBasedAnswer r (take size text) (nat_lt 0 tail.sign) tail.letter (take tail.digits (drop (size + gap + tail.sign + tail.space + 2) text))
    → IsBasedAnswer r s.size (is_signed s.says.sign) tail.letter s.says.digits
answer_found text size gap tail s r a =
    subst (λ d. IsBasedAnswer r s.size (is_signed s.says.sign) tail.letter d) (digits_taken text size gap tail s)
    (subst (λ t. IsBasedAnswer r s.size t tail.letter (take tail.digits (drop (size + gap + tail.sign + tail.space + 2) text))) (signed_is text size gap tail s)
    (subst (λ z. IsBasedAnswer r z (nat_lt 0 tail.sign) tail.letter (take tail.digits (drop (size + gap + tail.sign + tail.space + 2) text))) (size_taken text size gap tail s) a))

pub literal_piece : (text : List ℕ) (size gap : ℕ) (tail : Tail) (s : BasedSays text size gap tail) (l : Literal)
    → IsBasedAnswer (Ok l) s.size (is_signed s.says.sign) tail.letter s.says.digits → IsPiece (pieces.Token (kinds.Number l) (size + gap + tail.sign + tail.space + tail.digits + 2)) text
literal_piece text size gap tail s l a = (
  based_text (found s),
  s.says.behind,
  s.sound (λ o w. w (based_text (found s)) s.says.behind (found_parts text size gap tail s) (found s, found_based text size gap tail s))
      (λ cs rest b g i. let same = found_same text size gap tail s cs rest b g i in
      (λ n. a.0 (subst (λ d. IsNone s.size d) same.1 (subst (λ z. IsNone z b.digits) same.0 n)), λ w. a.1 (subst (λ z. 64 < width_of z) same.0 w))),
  s.no_gaps,
  begins_token text size gap tail s,
  inr (found s, found_based text size gap tail s, a.0, a.2),
  found_len text size gap tail s,
)

pub fault_piece : (text : List ℕ) (size gap : ℕ) (tail : Tail) (s : BasedSays text size gap tail) (cause : Cause)
    → IsBasedAnswer (Err cause) s.size (is_signed s.says.sign) tail.letter s.says.digits → IsPiece (pieces.Fault cause) text
fault_piece text size gap tail s causes.BadNumber a = inl (no_number (based_text (found s)) s.says.behind (found s) (begins_based text size gap tail s) (found_based text size gap tail s) a)
fault_piece text size gap tail s causes.NumberTooWide a = inl (too_wide (based_text (found s)) s.says.behind (found s) (begins_based text size gap tail s) (found_based text size gap tail s) a.0 a.1)
fault_piece text size gap tail s causes.BadByte a = absurd a
fault_piece text size gap tail s causes.OpenComment a = absurd a
fault_piece text size gap tail s causes.Directive a = absurd a

pub based_piece : (text : List ℕ) (size gap : ℕ) (tail : Tail) (p : Piece) → BasedSays text size gap tail
    → IsBasedPiece p (take size text) tail (take tail.digits (drop (size + gap + tail.sign + tail.space + 2) text)) (size + gap + tail.sign + tail.space + tail.digits + 2) → IsPiece p text
based_piece text size gap tail (pieces.Token (kinds.Number l) len) s a =
    subst (λ n. IsPiece (pieces.Token (kinds.Number l) n) text) (sym a.0) (literal_piece text size gap tail s l (answer_found text size gap tail s (Ok l) a.1))
based_piece text size gap tail (pieces.Fault cause) s a = fault_piece text size gap tail s cause (answer_found text size gap tail s (Err cause) a)
based_piece text size gap tail (pieces.Gap len) s a = absurd a
based_piece text size gap tail (pieces.Token kinds.Name len) s a = absurd a
based_piece text size gap tail (pieces.Token kinds.System len) s a = absurd a
based_piece text size gap tail (pieces.Token kinds.Keyword len) s a = absurd a
based_piece text size gap tail (pieces.Token kinds.Mark len) s a = absurd a
