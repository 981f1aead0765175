-- Every text has a reading.
use Rattle.std.proofs.Common.{◌≡◌, ℕ, zero, suc, ◌+◌, ◌<◌, ◌≤◌, ◌^◌, ◌%◌, Bool, true, false, cond, List, [], ◌∷◌, ◌++◌, length, take, Ok, Err, inl, inr, ◌⊎◌, refl, sym, ap, ◌∙◌, arith, length-append, bit_and, lit<}
use Rattle.std.specs.Int.{bit_not, w64}
use Rattle.std.specs.Int.Bits.{and_zero_r}
use Rattle.std.specs.List.{list_any}
use Rattle.std.proofs.lemmas.Nat.{mod_below}
use Rattle.std.proofs.lemmas.Bool.{cases_Bool}
use Rattle.rst_lex.specs.declared.front.Tail.{Tail}
use Rattle.rst_lex.specs.declared.front.Cause.TheVariants as causes
use Rattle.rst_lex.specs.declared.front.Front.{Front}
use Rattle.rst_lex.specs.declared.front.Front.TheVariants as fronts
use Rattle.rst_lex.specs.declared.piece.Piece.{Piece}
use Rattle.rst_lex.specs.declared.piece.Piece.TheVariants as pieces
use Rattle.rst_lex.specs.declared.token.TokenKind.TheVariants as kinds
use Rattle.rst_lex.specs.declared.token.Literal.{Literal}
use Rattle.rst_lex.specs.Words.{is_keyword}
use Rattle.rst_lex.specs.Literals.{number, radix_of, digit_value, decimal_number, mask_of, is_unknown, width_of, is_signed, IsNone, LiteralOf, IsPlain}
use Rattle.rst_lex.specs.Fronts.{text_front}
use Rattle.rst_lex.specs.Pieces.{IsPiece}
use Rattle.rst_lex.specs.Lexing.{Answer, with_token, fault_at, Lexes, done, gap, token, Reads}
use Rattle.rst_lex.proofs.Worth.{value_below, mask_below, within_word, apart}
use Rattle.rst_lex.proofs.LexFronts.{Says, BasedSays, says}
use Rattle.rst_lex.proofs.LexPieces.{word_piece, system_piece, mark_piece, decimal_piece, literal_piece, fault_piece}
use Rattle.rst_lex.proofs.LexLoop.{gap_some, token_some, fault_reads}

-- ---- every number has a literal

plain_of : (bs : List ℕ) → (l : Literal) × IsPlain l bs
plain_of bs =
    let value = decimal_number bs % 2 ^ 32 in
    let l : Literal = record {
      width = 32;
      signed = true;
      value = value;
      mask = 0;
      not_empty = omega arith;
      in_word = omega arith;
      value_fits = mod_below (decimal_number bs) (2 ^ 32) (lit< tt);
      mask_fits = lit< tt;
      masked_are_zero = and_zero_r value;
    } in
    (l, record { width = refl; signed = refl; value = refl; mask = refl })

literal_of : (width : ℕ) (signed : Bool) (letter : ℕ) (digits : List ℕ) → 1 ≤ width → width ≤ 64 → (l : Literal) × LiteralOf l width signed letter digits
literal_of width signed letter digits some within =
    let mask = mask_of letter digits width in
    let cut = number (radix_of letter) digit_value digits % 2 ^ width in
    let below = mask_below letter digits width mask refl in
    let l : Literal = record {
      width = width;
      signed = signed;
      value = bit_and cut (bit_not w64 mask);
      mask = mask;
      not_empty = some;
      in_word = within;
      value_fits = value_below cut (number (radix_of letter) digit_value digits) width (bit_not w64 mask) refl;
      mask_fits = below;
      masked_are_zero = apart cut mask (within_word mask width within below);
    } in
    (l, record { has_width = refl; has_sign = refl; has_mask = refl; has_value = refl })

-- ---- every text that isn't empty begins with a piece

abbrev SomePiece : List ℕ → Type 0
SomePiece text = (p : Piece) × IsPiece p text

by_size : (n : ℕ) → (n ≡ 0) ⊎ ((1 ≤ n) × (n ≤ 64)) ⊎ (64 < n)
by_size n = grind arith

based_of : (text : List ℕ) (size room : ℕ) (tail : Tail) (s : BasedSays text size room tail) → SomePiece text
based_of text size room tail s = elim (cases_Bool (list_any is_unknown s.says.digits)) [
  | inl unknown ↦ (pieces.Fault causes.BadNumber, fault_piece text size room tail s causes.BadNumber (inr unknown))
  | inr known ↦ by_width known (width_of s.size) refl (by_size (width_of s.size))
]
  where
    no_none : list_any is_unknown s.says.digits ≡ false → (width_of s.size ≡ 0 → ⊥) → IsNone s.size s.says.digits → ⊥
    no_none known some (inl z) = some z
    no_none known some (inr u) = let e = sym known ∙ u in cc

    by_width : list_any is_unknown s.says.digits ≡ false → (n : ℕ) → width_of s.size ≡ n → (n ≡ 0) ⊎ ((1 ≤ n) × (n ≤ 64)) ⊎ (64 < n) → SomePiece text
    by_width known n e (inl z) = (pieces.Fault causes.BadNumber, fault_piece text size room tail s causes.BadNumber (inl (e ∙ z)))
    by_width known n e (inr (inl w)) =
        let l = literal_of (width_of s.size) (is_signed s.says.sign) tail.letter s.says.digits (omega (arith, e, w.0)) (omega (arith, e, w.1)) in
        (pieces.Token (kinds.Number l.0) (size + room + tail.sign + tail.space + tail.digits + 2), literal_piece text size room tail s l.0 (no_none known (λ z. omega (arith, e, w.0, z)), (λ big. omega (arith, e, w.1, big)), l.1))
    by_width known n e (inr (inr big)) =
        (pieces.Fault causes.NumberTooWide, fault_piece text size room tail s causes.NumberTooWide (no_none known (λ z. omega (arith, e, big, z)), omega (arith, e, big)))

piece_of : (front : Front) (text : List ℕ) → Says front text → SomePiece text
piece_of (fronts.Gap n) text s = (pieces.Gap n, s)
piece_of (fronts.Word n) text s = (pieces.Token (cond (is_keyword (take n text)) kinds.Keyword kinds.Name) n, word_piece text n s)
piece_of (fronts.System n) text s = (pieces.Token kinds.System n, system_piece text n s)
piece_of (fronts.Decimal n) text s = let l = plain_of (take n text) in (pieces.Token (kinds.Number l.0) n, decimal_piece text n l.0 s l.1)
piece_of (fronts.Based size room tail) text s = based_of text size room tail s
piece_of (fronts.Mark n) text s = (pieces.Token kinds.Mark n, mark_piece text n s)
piece_of (fronts.Fault cause) text s = (pieces.Fault cause, s)

-- ---- every text is read

abbrev SomeAnswer : ℕ → List ℕ → Type 0
SomeAnswer at text = (answer : Answer) × Lexes at text answer

shorter : (fuel : ℕ) (text bs rest : List ℕ) → text ≡ bs ++ rest → 0 < length bs → length text ≤ suc fuel → length rest ≤ fuel
shorter fuel text bs rest e some le = omega (arith, ap length e, length-append bs rest)

behind : (fuel at : ℕ) (text : List ℕ) (p : Piece) → 0 < length text → length text ≤ suc fuel → IsPiece p text
    → ((at : ℕ) (rest : List ℕ) → length rest ≤ fuel → SomeAnswer at rest) → SomeAnswer at text
behind fuel at text (pieces.Gap len) some le s again =
    let more = again (at + length s.0) s.1 (shorter fuel text s.0 s.1 s.3.parts (gap_some s.0 s.3.fits) le) in
    (more.0, gap s.0 s.1 s.2 s.3 more.1)
behind fuel at text (pieces.Token kind len) some le s again =
    let more = again (at + length s.0) s.1 (shorter fuel text s.0 s.1 s.4.parts (token_some s.0 s.4.fits) le) in
    (with_token kind at (at + length s.0) more.0, token kind s.0 s.1 more.0 s.2 s.3 s.4 s.5 more.1 refl)
behind fuel at text (pieces.Fault cause) some le s again = (Err (fault_at cause at), fault_reads at text cause some s)

reading_within : (fuel at : ℕ) (text : List ℕ) → length text ≤ fuel → SomeAnswer at text
reading_within fuel at [] le = (Ok [], done)
reading_within zero at (b ∷ bs) le = absurd (omega arith)
reading_within (suc fuel) at (b ∷ bs) le =
    let some : 0 < length (b ∷ bs) = omega arith in
    let p = piece_of (text_front (b ∷ bs)) (b ∷ bs) (says (b ∷ bs) some) in
    behind fuel at (b ∷ bs) p.0 some le p.1 (λ next rest short. reading_within fuel next rest short)

pub some_reading : (text : List ℕ) → (answer : Answer) × Reads text answer
some_reading text = reading_within (length text) 0 text (omega arith)
