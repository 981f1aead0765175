-- What stands at the front of a text, as a function that the code computes. `Lexing` says what it is to be.
use Rattle.std.specs.Prelude.{ℕ, suc, ◌+◌, ◌==◌, Bool, false, ◌||◌, ◌&&◌, not, List, [], ◌∷◌, Option, Some, None, if◌then◌else◌, drop}
use Rattle.std.specs.List.{prefix_len}
use Rattle.std.specs.Option.{option_map}
use Prim.Native.Char.{code}
use Rattle.rst_lex.specs.declared.front.Cause.TheVariants as causes
use Rattle.rst_lex.specs.declared.front.Tail.{Tail}
use Rattle.rst_lex.specs.declared.front.Front.{Front}
use Rattle.rst_lex.specs.declared.front.Front.TheVariants as fronts
use Rattle.rst_lex.specs.Bytes.{is_space, is_digit, is_name_start, is_name_byte, is_decimal_byte}
use Rattle.rst_lex.specs.Gaps.{is_in_line, closes_next, is_skipped_directive}
use Rattle.rst_lex.specs.MarkFronts.{mark_len}
use Rattle.rst_lex.specs.Numbers.{is_digit_behind}

abbrev pub closes : ℕ → ℕ → ℕ → ℕ → Bool
closes x y a b = (a == x) && (b == y)

-- how many bytes reach up to the first place where x and y stand side by side
unfoldable pub close_len : ℕ → ℕ → List ℕ → Option ℕ
close_len x y [] = None
close_len x y (a ∷ []) = None
close_len x y (a ∷ b ∷ bs) = if closes x y a b then Some 2 else option_map suc (close_len x y (b ∷ bs))

abbrev pub comment_front : Option ℕ → Front
comment_front None = fronts.Fault causes.OpenComment
comment_front (Some n) = fronts.Gap (2 + n)

unfoldable pub slash_front : List ℕ → Front
slash_front [] = fronts.Mark 1
slash_front (b ∷ bs) = if b == code "/" then fronts.Gap (2 + prefix_len is_in_line bs) else (if b == code "*" then comment_front (close_len (code "*") (code "/") bs) else fronts.Mark 1)

unfoldable pub bracket_front : List ℕ → Front
bracket_front [] = fronts.Mark 1
bracket_front (b ∷ bs) = if (b == code "*") && not (closes_next bs) then comment_front (close_len (code "*") (code ")") bs) else fronts.Mark 1

unfoldable pub directive_front : List ℕ → Front
directive_front bs = if is_skipped_directive bs then fronts.Gap (1 + prefix_len is_in_line bs) else fronts.Fault causes.Directive

unfoldable pub system_front : List ℕ → Front
system_front bs = if prefix_len is_name_byte bs == 0 then fronts.Fault causes.BadByte else fronts.System (1 + prefix_len is_name_byte bs)

abbrev pub begins_digits : ℕ → List ℕ → Bool
begins_digits letter [] = false
begins_digits letter (b ∷ bs) = is_digit_behind letter b && not (b == code "_")

-- a base letter, white space and digits, behind so many bytes of a sign
unfoldable pub letter_front : ℕ → List ℕ → Option Tail
letter_front sign [] = None
letter_front sign (letter ∷ bs) = let space = prefix_len is_space bs in
    if begins_digits letter (drop space bs) then Some (record { sign = sign; letter = letter; space = space; digits = prefix_len (is_digit_behind letter) (drop space bs) }) else None

unfoldable pub tail_front : List ℕ → Option Tail
tail_front [] = letter_front 0 []
tail_front (b ∷ bs) = if (b == code "s") || (b == code "S") then letter_front 1 bs else letter_front 0 (b ∷ bs)

abbrev pub tail_based : ℕ → ℕ → Option Tail → Front
tail_based size gap None = fronts.Fault causes.BadNumber
tail_based size gap (Some tail) = fronts.Based size gap tail

unfoldable pub based_front : ℕ → ℕ → List ℕ → Front
based_front size gap more = tail_based size gap (tail_front more)

abbrev pub quote_front : ℕ → ℕ → List ℕ → Front
quote_front size gap [] = fronts.Decimal size
quote_front size gap (b ∷ more) = if b == code "'" then based_front size gap more else fronts.Decimal size

-- behind the first digit
unfoldable pub number_front : List ℕ → Front
number_front bs = let size = prefix_len is_decimal_byte bs in let gap = prefix_len is_space (drop size bs) in quote_front (1 + size) gap (drop gap (drop size bs))

unfoldable pub mark_front : List ℕ → Front
mark_front text = if mark_len text == 0 then fronts.Fault causes.BadByte else fronts.Mark (mark_len text)

unfoldable pub text_front : List ℕ → Front
text_front [] = fronts.Fault causes.BadByte
text_front (a ∷ bs) = if is_space a then fronts.Gap 1
    else (if is_name_start a then fronts.Word (1 + prefix_len is_name_byte bs)
    else (if a == code "/" then slash_front bs
    else (if a == code "(" then bracket_front bs
    else (if is_digit a then number_front bs
    else (if a == code "'" then based_front 0 0 bs
    else (if a == code "$" then system_front bs
    else (if a == code "`" then directive_front bs
    else mark_front (a ∷ bs))))))))
