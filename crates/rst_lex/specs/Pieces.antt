-- What the code finds at the front of a text, before it goes on behind it.
use Rattle.std.specs.Prelude.{◌≡◌, ℕ, ◌<◌, Bool, List, length, ◌⊎◌, Result, Ok, Err, nat_lt}
use Rattle.rst_lex.specs.declared.front.Tail.{Tail}
use Rattle.rst_lex.specs.declared.front.Cause.{Cause}
use Rattle.rst_lex.specs.declared.front.Cause.TheVariants as causes
use Rattle.rst_lex.specs.declared.piece.Piece.{Piece}
use Rattle.rst_lex.specs.declared.piece.Piece.TheVariants as pieces
use Rattle.rst_lex.specs.declared.token.Literal.{Literal}
use Rattle.rst_lex.specs.declared.token.TokenKind.TheVariants as kinds
use Rattle.rst_lex.specs.Literals.{width_of, LiteralOf, IsNone}
use Rattle.rst_lex.specs.Gaps.{IsGap}
use Rattle.rst_lex.specs.Tokens.{IsToken, Begins}
use Rattle.rst_lex.specs.Lexing.{Nowhere, IsFault, IsSound, IsTokenOf}

-- the literal of these parts, or why they are none
abbrev pub IsBasedAnswer : Result Literal Cause → List ℕ → Bool → ℕ → List ℕ → Type 0
IsBasedAnswer (Ok literal) size signed letter digits = (IsNone size digits → ⊥) × (64 < width_of size → ⊥) × LiteralOf literal (width_of size) signed letter digits
IsBasedAnswer (Err causes.BadNumber) size signed letter digits = IsNone size digits
IsBasedAnswer (Err causes.NumberTooWide) size signed letter digits = (IsNone size digits → ⊥) × (64 < width_of size)
IsBasedAnswer (Err causes.BadByte) size signed letter digits = ⊥
IsBasedAnswer (Err causes.OpenComment) size signed letter digits = ⊥
IsBasedAnswer (Err causes.Directive) size signed letter digits = ⊥

-- What stands at the front of a text: a gap or a token and how many bytes it has, or a fault.
abbrev pub IsPiece : Piece → List ℕ → Type 0
IsPiece (pieces.Gap len) text = (bs : List ℕ) × (rest : List ℕ) × IsSound text × Begins IsGap text bs rest × (length bs ≡ len)
IsPiece (pieces.Token kind len) text = (bs : List ℕ) × (rest : List ℕ) × IsSound text × Nowhere IsGap text × Begins IsToken text bs rest × IsTokenOf kind bs × (length bs ≡ len)
IsPiece (pieces.Fault cause) text = IsFault text cause ⊎ ((cause ≡ causes.BadByte) × IsSound text × Nowhere IsGap text × Nowhere IsToken text)

-- what is made of these parts of a based literal, which has so many bytes
abbrev pub IsBasedPiece : Piece → List ℕ → Tail → List ℕ → ℕ → Type 0
IsBasedPiece (pieces.Token (kinds.Number literal) len) size tail digits count = (len ≡ count) × IsBasedAnswer (Ok literal) size (nat_lt 0 tail.sign) tail.letter digits
IsBasedPiece (pieces.Fault cause) size tail digits count = IsBasedAnswer (Err cause) size (nat_lt 0 tail.sign) tail.letter digits
IsBasedPiece piece size tail digits count = ⊥
