-- A text is read in one way.
use Rattle.std.proofs.Common.{◌≡◌, ℕ, ◌+◌, ◌^◌, ◌%◌, Bool, true, List, [], ◌∷◌, ◌++◌, length, Err, inl, inr, ◌⊎◌, refl, sym, ap, subst, ◌∙◌, arith, drop, length-drop, bit_and}
use Rattle.std.specs.Int.{bit_not, w64}
use Rattle.std.proofs.lemmas.Bool.Decides.{nat_tests}
use Rattle.std.specs.Prelude.{◌==◌}
use Rattle.std.proofs.lemmas.List.{append-nil, nil_from_length}
use Rattle.std.specs.List.{prefix_len}
use Rattle.rst_lex.specs.declared.front.Cause.{Cause}
use Rattle.rst_lex.specs.declared.front.Cause.TheVariants as causes
use Rattle.rst_lex.specs.declared.token.TokenKind.{TokenKind}
use Rattle.rst_lex.specs.declared.token.TokenKind.TheVariants as kinds
use Rattle.rst_lex.specs.declared.token.Literal.{Literal}
use Rattle.rst_lex.specs.Bytes.{is_digit, is_name_start, is_space, is_decimal_byte}
use Rattle.rst_lex.specs.MarkFronts.{is_mark}
use Rattle.rst_lex.specs.Numbers.{IsDecimal, IsSize, Based, IsBased}
use Rattle.rst_lex.specs.Literals.{width_of, is_signed, IsPlain, LiteralOf, HasParts, number, radix_of, digit_value}
use Rattle.rst_lex.specs.Gaps.{IsGap}
use Rattle.rst_lex.specs.Tokens.{IsToken}
use Rattle.rst_lex.specs.Lexing.{IsBasedText, IsNoNumber, IsFault, block, attribute, directive, broken, no_number, too_wide, IsTokenOf, Answer, with_token, fault_at, Lexes, done, gap, token, fault, bad_byte}
use Rattle.rst_lex.proofs.Shapes.{same_begins, no_empty_token, identifier_head, mark_head, system_head, based_head, no_based, parts_head}
use Rattle.rst_lex.proofs.GapFronts.{no_empty_gap}
use Rattle.rst_lex.proofs.Sounds.{begins_number, begins_cause, fault_head}
use Rattle.rst_lex.proofs.Names.{name_identifier, name_no_keyword}
use Rattle.rst_lex.proofs.Literals.{same_literal}
use Rattle.rst_lex.proofs.Numbers.{OneHead, based_parts, Splits, same_parts, head_is, quote_is, run_len, based_behind}

abbrev err_of : Cause → ℕ → Answer
err_of cause at = Err (fault_at cause at)

abbrev LiteralOf_of : Literal → Based → Type 0
LiteralOf_of m b = HasParts m b

abbrev IsNoNumber_of : Based → Type 0
IsNoNumber_of b = IsNoNumber b

-- ---- one based literal

no_parts : (size room more : List ℕ) → [] ≡ size ++ (room ++ 39 ∷ more) → ⊥
no_parts [] [] more e = cc
no_parts [] (g ∷ room) more e = cc
no_parts (b ∷ size) room more e = cc

same_rest : (a b : ℕ) (x y : List ℕ) → a ∷ x ≡ b ∷ y → x ≡ y
same_rest a b x y e = cc

-- what stands before ' is read in one way
same_heads : (text size room more size' room' more' : List ℕ) → text ≡ size ++ (room ++ 39 ∷ more) → IsSize size room → text ≡ size' ++ (room' ++ 39 ∷ more') → IsSize size' room'
    → (size' ≡ size) × (room' ≡ room) × (more' ≡ more)
same_heads [] size room more size' room' more' e s f t = absurd (no_parts size room more e)
same_heads (a ∷ bs) size room more size' room' more' e s f t = by_head (parts_head a bs size room more e s)
  where
    by_head : (is_digit a ≡ true) ⊎ (a ≡ 39) → (size' ≡ size) × (room' ≡ room) × (more' ≡ more)
    by_head (inl d) =
        let h = head_is a bs size room more d e s in
        let k = head_is a bs size' room' more' d f t in
        (k.size_is ∙ sym h.size_is, k.gap_is ∙ sym h.gap_is, same_rest 39 39 more' more (k.next_is ∙ sym h.next_is))
    by_head (inr q) =
        let h = quote_is bs size room more (ap (λ k. k ∷ bs) (sym q) ∙ e) s in
        let k = quote_is bs size' room' more' (ap (λ k. k ∷ bs) (sym q) ∙ f) t in
        (k.0 ∙ sym h.0, k.1 ∙ sym h.1, k.2 ∙ sym h.2)

no_more : (bs : List ℕ) → bs ≡ bs ++ []
no_more bs = sym (append-nil bs)

same_based : (bs : List ℕ) (b c : Based) → IsBased bs b → IsBased bs c → b ≡ c
same_based bs b c i j =
    let more = b.sign ++ b.letter ∷ (b.space ++ (b.digits ++ [])) in
    let whole : bs ≡ b.size ++ (b.gap ++ 39 ∷ more) = no_more bs ∙ ap (λ k. k ++ []) i.text ∙ based_behind b [] in
    let head : OneHead bs b.size b.gap more = record { parts = whole; sized = i.sized; only = λ size room more' e s. same_heads bs b.size b.gap more size room more' whole i.sized e s } in
    let p = based_parts bs b.size b.gap more bs [] c head (no_more bs) j in
    let own : Splits more b.sign b.letter b.space b.digits [] = record { parts = refl; signed = i.signed; spaced = i.spaced; given = i.digits } in
    let same = same_parts more b.sign b.letter b.space b.digits [] c.sign c.letter c.space c.digits [] own p.splits in
    let digits : b.digits ≡ c.digits = no_more b.digits ∙ same.afters ∙ append-nil c.digits in
    λ k. record { size = sym p.sizes k; gap = sym p.gaps k; sign = same.signs k; letter = same.letters k; space = same.spaces k; digits = digits k }

decimal_no_based : (bs : List ℕ) (b : Based) → IsDecimal bs → IsBased bs b → ⊥
decimal_no_based [] b d i = d
decimal_no_based (a ∷ bs) b d i =
    let more = b.sign ++ b.letter ∷ (b.space ++ b.digits) in
    let h = head_is a bs b.size b.gap more d.0 i.text i.sized in
    let n : prefix_len is_decimal_byte bs ≡ length bs = ap (prefix_len is_decimal_byte) (no_more bs) ∙ run_len is_decimal_byte bs [] d.1 tt in
    none more (prefix_len is_decimal_byte bs) n h.next_is
  where
    none : (more : List ℕ) (k : ℕ) → k ≡ length bs → 39 ∷ more ≡ drop (prefix_len is_space (drop k bs)) (drop k bs) → ⊥
    none more k n e =
        let empty : drop k bs ≡ [] = nil_from_length (drop k bs) (omega (arith, length-drop k bs)) in
        let f = e ∙ ap (λ r. drop (prefix_len is_space r) r) empty in
        cc

-- ---- one kind

same_plain : (l m : Literal) (bs : List ℕ) → IsPlain l bs → IsPlain m bs → l ≡ m
same_plain l m bs p q = same_literal l m (p.width ∙ sym q.width) (p.signed ∙ sym q.signed) (p.value ∙ sym q.value) (p.mask ∙ sym q.mask)

same_parts_of : (l m : Literal) (width : ℕ) (signed : Bool) (letter : ℕ) (digits : List ℕ) → LiteralOf l width signed letter digits → LiteralOf m width signed letter digits → l ≡ m
same_parts_of l m width signed letter digits p q =
    let masks : l.mask ≡ m.mask = p.has_mask ∙ sym q.has_mask in
    same_literal l m (p.has_width ∙ sym q.has_width) (p.has_sign ∙ sym q.has_sign)
    (p.has_value ∙ ap (λ k. bit_and (number (radix_of letter) digit_value digits % 2 ^ width) (bit_not w64 k)) masks ∙ sym q.has_value) masks

same_number : (l m : Literal) (bs : List ℕ) → IsTokenOf (kinds.Number l) bs → IsTokenOf (kinds.Number m) bs → l ≡ m
same_number l m bs (inl p) (inl q) = same_plain l m bs p.1 q.1
same_number l m bs (inl p) (inr q) = absurd (decimal_no_based bs q.0 p.0 q.1)
same_number l m bs (inr p) (inl q) = absurd (decimal_no_based bs p.0 q.0 p.1)
same_number l m bs (inr p) (inr q) =
    let parts = subst (LiteralOf_of m) (sym (same_based bs p.0 q.0 p.1 q.1)) q.3 in
    same_parts_of l m (width_of p.0.size) (is_signed p.0.sign) p.0.letter p.0.digits p.3 parts

-- what a token of a kind begins with
abbrev begins_kind : TokenKind → ℕ → Bool
begins_kind kinds.Name a = is_name_start a
begins_kind kinds.System a = a == 36
begins_kind kinds.Keyword a = is_name_start a
begins_kind (kinds.Number l) a = begins_number a
begins_kind kinds.Mark a = is_mark a

number_head : (a : ℕ) → (is_digit a ≡ true) ⊎ (a ≡ 39) → begins_number a ≡ true
number_head a (inl d) = rw d refl
number_head a (inr q) = ap begins_number q

kind_head : (kind : TokenKind) (a : ℕ) (bs : List ℕ) → IsTokenOf kind (a ∷ bs) → begins_kind kind a ≡ true
kind_head kinds.Name a bs t = identifier_head a bs (name_identifier (a ∷ bs) t)
kind_head kinds.System a bs t = ap (λ k. k == 36) (system_head a bs t)
kind_head kinds.Keyword a bs t = identifier_head a bs t.0
kind_head (kinds.Number l) a bs (inl t) = number_head a (inl t.0.0)
kind_head (kinds.Number l) a bs (inr t) = number_head a (based_head a bs t.0 t.1)
kind_head kinds.Mark a bs t = mark_head a bs t

name_dollar : (a : ℕ) → is_name_start a ≡ true → (a == 36) ≡ true → ⊥
name_dollar a n m = grind (arith, nat_tests)

name_number : (a : ℕ) → is_name_start a ≡ true → begins_number a ≡ true → ⊥
name_number a n m = grind (arith, nat_tests)

name_mark : (a : ℕ) → is_name_start a ≡ true → is_mark a ≡ true → ⊥
name_mark a n m = grind (arith, nat_tests)

dollar_number : (a : ℕ) → (a == 36) ≡ true → begins_number a ≡ true → ⊥
dollar_number a n m = grind (arith, nat_tests)

dollar_mark : (a : ℕ) → (a == 36) ≡ true → is_mark a ≡ true → ⊥
dollar_mark a n m = grind (arith, nat_tests)

number_mark : (a : ℕ) → begins_number a ≡ true → is_mark a ≡ true → ⊥
number_mark a n m = grind (arith, nat_tests)

one_kind : (j k : TokenKind) (a : ℕ) (bs : List ℕ) → IsTokenOf j (a ∷ bs) → IsTokenOf k (a ∷ bs) → begins_kind j a ≡ true → begins_kind k a ≡ true → j ≡ k
one_kind kinds.Name kinds.Name a bs s t f g = refl
one_kind kinds.System kinds.System a bs s t f g = refl
one_kind kinds.Keyword kinds.Keyword a bs s t f g = refl
one_kind kinds.Mark kinds.Mark a bs s t f g = refl
one_kind (kinds.Number l) (kinds.Number m) a bs s t f g = ap (λ (n : Literal). kinds.Number n) (same_number l m (a ∷ bs) s t)
one_kind kinds.Name kinds.Keyword a bs s t f g = let e = sym (name_no_keyword (a ∷ bs) s) ∙ t.1 in absurd cc
one_kind kinds.Keyword kinds.Name a bs s t f g = let e = sym (name_no_keyword (a ∷ bs) t) ∙ s.1 in absurd cc
one_kind kinds.Name kinds.System a bs s t f g = absurd (name_dollar a f g)
one_kind kinds.System kinds.Name a bs s t f g = absurd (name_dollar a g f)
one_kind kinds.Keyword kinds.System a bs s t f g = absurd (name_dollar a f g)
one_kind kinds.System kinds.Keyword a bs s t f g = absurd (name_dollar a g f)
one_kind kinds.Name (kinds.Number m) a bs s t f g = absurd (name_number a f g)
one_kind (kinds.Number l) kinds.Name a bs s t f g = absurd (name_number a g f)
one_kind kinds.Keyword (kinds.Number m) a bs s t f g = absurd (name_number a f g)
one_kind (kinds.Number l) kinds.Keyword a bs s t f g = absurd (name_number a g f)
one_kind kinds.Name kinds.Mark a bs s t f g = absurd (name_mark a f g)
one_kind kinds.Mark kinds.Name a bs s t f g = absurd (name_mark a g f)
one_kind kinds.Keyword kinds.Mark a bs s t f g = absurd (name_mark a f g)
one_kind kinds.Mark kinds.Keyword a bs s t f g = absurd (name_mark a g f)
one_kind kinds.System (kinds.Number m) a bs s t f g = absurd (dollar_number a f g)
one_kind (kinds.Number l) kinds.System a bs s t f g = absurd (dollar_number a g f)
one_kind kinds.System kinds.Mark a bs s t f g = absurd (dollar_mark a f g)
one_kind kinds.Mark kinds.System a bs s t f g = absurd (dollar_mark a g f)
one_kind (kinds.Number l) kinds.Mark a bs s t f g = absurd (number_mark a f g)
one_kind kinds.Mark (kinds.Number m) a bs s t f g = absurd (number_mark a g f)

kinds_same : (j k : TokenKind) (bs : List ℕ) → IsToken bs → IsTokenOf j bs → IsTokenOf k bs → j ≡ k
kinds_same j k [] t s u = absurd (no_empty_token t)
kinds_same j k (a ∷ bs) t s u = one_kind j k a bs s u (kind_head j a bs s) (kind_head k a bs u)

-- ---- one fault

number_comment : (a : ℕ) → begins_number a ≡ true → begins_cause causes.OpenComment a ≡ true → ⊥
number_comment a n m = grind (arith, nat_tests)

number_directive : (a : ℕ) → begins_number a ≡ true → begins_cause causes.Directive a ≡ true → ⊥
number_directive a n m = grind (arith, nat_tests)

comment_directive : (a : ℕ) → begins_cause causes.OpenComment a ≡ true → begins_cause causes.Directive a ≡ true → ⊥
comment_directive a n m = grind (arith, nat_tests)

wide_no_bad : (text : List ℕ) → IsFault text causes.BadNumber → IsFault text causes.NumberTooWide → ⊥
wide_no_bad text (broken o n) (too_wide bs rest b g i z w) = n bs rest g.parts g.fits
wide_no_bad text (no_number bs rest b g i z) (too_wide cs more c h j y w) =
    let one = same_begins IsBasedText text bs cs rest more g h in
    let same = same_based bs b c i (subst (λ k. IsBased k c) (sym one.0) j) in
    y (subst IsNoNumber_of same z)

some_fault : (cause : Cause) → IsFault [] cause → ⊥
some_fault causes.OpenComment (block o n) = o
some_fault causes.OpenComment (attribute o n) = o
some_fault causes.Directive (directive o) = o
some_fault causes.BadByte f = elim f [ ]
some_fault causes.BadNumber (broken o n) = no_parts o.size o.gap o.more o.parts
some_fault causes.BadNumber (no_number bs rest b g i z) = no_front bs rest b g.parts i
  where
    no_front : (bs rest : List ℕ) (b : Based) → [] ≡ bs ++ rest → IsBased bs b → ⊥
    no_front [] rest b e i = no_based b i
    no_front (x ∷ bs) rest b e i = cc
some_fault causes.NumberTooWide (too_wide bs rest b g i z w) = no_front bs rest b g.parts i
  where
    no_front : (bs rest : List ℕ) (b : Based) → [] ≡ bs ++ rest → IsBased bs b → ⊥
    no_front [] rest b e i = no_based b i
    no_front (x ∷ bs) rest b e i = cc

one_cause : (c d : Cause) (a : ℕ) (bs : List ℕ) → IsFault (a ∷ bs) c → IsFault (a ∷ bs) d → begins_cause c a ≡ true → begins_cause d a ≡ true → c ≡ d
one_cause causes.OpenComment causes.OpenComment a bs f g x y = refl
one_cause causes.Directive causes.Directive a bs f g x y = refl
one_cause causes.BadNumber causes.BadNumber a bs f g x y = refl
one_cause causes.NumberTooWide causes.NumberTooWide a bs f g x y = refl
one_cause causes.BadByte d a bs f g x y = elim f [ ]
one_cause c causes.BadByte a bs f g x y = elim g [ ]
one_cause causes.OpenComment causes.Directive a bs f g x y = absurd (comment_directive a x y)
one_cause causes.Directive causes.OpenComment a bs f g x y = absurd (comment_directive a y x)
one_cause causes.OpenComment causes.BadNumber a bs f g x y = absurd (number_comment a y x)
one_cause causes.BadNumber causes.OpenComment a bs f g x y = absurd (number_comment a x y)
one_cause causes.OpenComment causes.NumberTooWide a bs f g x y = absurd (number_comment a y x)
one_cause causes.NumberTooWide causes.OpenComment a bs f g x y = absurd (number_comment a x y)
one_cause causes.Directive causes.BadNumber a bs f g x y = absurd (number_directive a y x)
one_cause causes.BadNumber causes.Directive a bs f g x y = absurd (number_directive a x y)
one_cause causes.Directive causes.NumberTooWide a bs f g x y = absurd (number_directive a y x)
one_cause causes.NumberTooWide causes.Directive a bs f g x y = absurd (number_directive a x y)
one_cause causes.BadNumber causes.NumberTooWide a bs f g x y = absurd (wide_no_bad (a ∷ bs) f g)
one_cause causes.NumberTooWide causes.BadNumber a bs f g x y = absurd (wide_no_bad (a ∷ bs) g f)

causes_same : (c d : Cause) (text : List ℕ) → IsFault text c → IsFault text d → c ≡ d
causes_same c d [] f g = absurd (some_fault c f)
causes_same c d (a ∷ bs) f g = one_cause c d a bs f g (fault_head a bs c f) (fault_head a bs d g)

-- ---- one reading

no_gap_at_end : (bs rest : List ℕ) → [] ≡ bs ++ rest → IsGap bs → ⊥
no_gap_at_end [] rest e g = no_empty_gap g
no_gap_at_end (b ∷ bs) rest e g = cc

no_token_at_end : (bs rest : List ℕ) → [] ≡ bs ++ rest → IsToken bs → ⊥
no_token_at_end [] rest e t = no_empty_token t
no_token_at_end (b ∷ bs) rest e t = cc

pub one_reading : {at : ℕ} {text : List ℕ} {p q : Answer} → Lexes at text p → Lexes at text q → p ≡ q
one_reading done done = refl
one_reading done (gap bs rest s b l) = absurd (no_gap_at_end bs rest b.parts b.fits)
one_reading done (token k bs rest others s n b t l e) = absurd (no_token_at_end bs rest b.parts b.fits)
one_reading done (fault c f) = absurd (some_fault c f)
one_reading (gap bs rest s b l) done = absurd (no_gap_at_end bs rest b.parts b.fits)
one_reading {at} {text} {p} {q} (gap bs rest s b l) (gap cs more t c m) =
    let one = same_begins IsGap text bs cs rest more b c in
    one_reading l (subst (λ k. Lexes (at + length k) rest q) (sym one.0) (subst (λ r. Lexes (at + length cs) r q) (sym one.1) m))
one_reading (gap bs rest s b l) (token k cs more others t n c u m e) = absurd (n bs rest b.parts b.fits)
one_reading (gap bs rest s b l) (fault c f) = absurd (s c f)
one_reading (gap bs rest s b l) (bad_byte d ds t n u) = absurd (n bs rest b.parts b.fits)
one_reading (token k cs more others t n c u m e) done = absurd (no_token_at_end cs more c.parts c.fits)
one_reading (token k cs more others t n c u m e) (gap bs rest s b l) = absurd (n bs rest b.parts b.fits)
one_reading {at} {text} (token j bs rest others s n b t l e) (token k cs more again s' n' c t' m e') =
    let one = same_begins IsToken text bs cs rest more b c in
    let kind = kinds_same j k bs b.fits t (subst (IsTokenOf k) (sym one.0) t') in
    let same = one_reading l (subst (λ z. Lexes (at + length z) rest again) (sym one.0) (subst (λ r. Lexes (at + length cs) r again) (sym one.1) m)) in
    e ∙ ap (λ z. with_token z at (at + length bs) others) kind ∙ ap (λ z. with_token k at (at + length z) others) one.0 ∙ ap (with_token k at (at + length cs)) same ∙ sym e'
one_reading (token k cs more others t n c u m e) (fault d f) = absurd (t d f)
one_reading (token k cs more others t n c u m e) (bad_byte d ds s g v) = absurd (v cs more c.parts c.fits)
one_reading (fault c f) done = absurd (some_fault c f)
one_reading (fault c f) (gap bs rest s b l) = absurd (s c f)
one_reading (fault c f) (token k cs more others t n b u m e) = absurd (t c f)
one_reading {at} {text} (fault c f) (fault d g) = ap (λ (k : Cause). err_of k at) (causes_same c d text f g)
one_reading (fault c f) (bad_byte d ds s n u) = absurd (s c f)
one_reading (bad_byte d ds s n u) (gap bs rest t b l) = absurd (n bs rest b.parts b.fits)
one_reading (bad_byte d ds s n u) (token k cs more others t g b v m e) = absurd (u cs more b.parts b.fits)
one_reading (bad_byte d ds s n u) (fault c f) = absurd (s c f)
one_reading (bad_byte d ds s n u) (bad_byte e es t m v) = refl
