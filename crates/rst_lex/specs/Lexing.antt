-- The tokens of a text, each the longest that fits, or the first fault.
use Rattle.std.specs.Prelude.{◌≡◌, ℕ, ◌+◌, ◌<◌, List, [], ◌∷◌, ◌++◌, length, ◌⊎◌, Result, Ok, Err, Option, Some, None}
use Prim.Native.Char.{code}
use Rattle.rst_lex.specs.declared.token.TokenKind.{TokenKind}
use Rattle.rst_lex.specs.declared.token.TokenKind.TheVariants as kinds
use Rattle.rst_lex.specs.declared.token.Token.{Token}
use Rattle.rst_lex.specs.declared.lexer.LexFault.{LexFault}
use Rattle.rst_lex.specs.declared.lexer.LexFault.TheVariants as faults
use Rattle.rst_lex.specs.declared.front.Cause.{Cause}
use Rattle.rst_lex.specs.declared.front.Cause.TheVariants as causes
use Rattle.rst_lex.specs.Words.{IsName, IsIdentifier, IsKeyword}
use Rattle.rst_lex.specs.Marks.{IsMark}
use Rattle.rst_lex.specs.Numbers.{IsDecimal, IsSize, Based, IsBased}
use Rattle.rst_lex.specs.Literals.{HasParts, IsPlain, IsNone, width_of}
use Rattle.rst_lex.specs.Gaps.{OpensBlock, IsBlock, OpensAttribute, IsAttribute, OpensDirective, IsGap}
use Rattle.rst_lex.specs.Tokens.{IsSystem, IsToken, Begins}

-- no front of the text is of this kind
abbrev pub Nowhere : (List ℕ → Type 0) → List ℕ → Type 0
Nowhere Kind text = (front behind : List ℕ) → text ≡ front ++ behind → Kind front → ⊥

abbrev pub IsBasedText : List ℕ → Type 0
IsBasedText bs = (b : Based) × IsBased bs b

-- a based literal that is no number
abbrev pub IsNoNumber : Based → Type 0
IsNoNumber b = IsNone b.size b.digits

-- A based literal begins: ' stands next, or behind a decimal number and white space.
pub record OpensBased (text : List ℕ) : Type 0 where
  pub size : List ℕ
  pub gap : List ℕ
  pub more : List ℕ
  pub parts : text ≡ size ++ (gap ++ code "'" ∷ more)
  pub sized : IsSize size gap

-- A thing begins the text that is faulty whatever stands behind it.
pub data IsFault (text : List ℕ) : Cause → Type 0 where
  block : OpensBlock text → Nowhere IsBlock text → IsFault text causes.OpenComment
  attribute : OpensAttribute text → Nowhere IsAttribute text → IsFault text causes.OpenComment
  directive : OpensDirective text → IsFault text causes.Directive
  broken : OpensBased text → Nowhere IsBasedText text → IsFault text causes.BadNumber
  no_number : (bs rest : List ℕ) (b : Based) → Begins IsBasedText text bs rest → IsBased bs b → IsNoNumber b → IsFault text causes.BadNumber
  too_wide : (bs rest : List ℕ) (b : Based) → Begins IsBasedText text bs rest → IsBased bs b → (IsNoNumber b → ⊥) → 64 < width_of b.size → IsFault text causes.NumberTooWide

abbrev pub IsSound : List ℕ → Type 0
IsSound text = (cause : Cause) → IsFault text cause → ⊥

-- The bytes are a token of this kind. A number is a plain decimal, or a based literal whose size is not 0 and which has
-- no digit x; that its size is at most 64 is said by the literal's own width.
abbrev pub IsTokenOf : TokenKind → List ℕ → Type 0
IsTokenOf kinds.Name bs = IsName bs
IsTokenOf kinds.System bs = IsSystem bs
IsTokenOf kinds.Keyword bs = IsIdentifier bs × IsKeyword bs
IsTokenOf (kinds.Number literal) bs = (IsDecimal bs × IsPlain literal bs) ⊎ ((b : Based) × IsBased bs b × (IsNoNumber b → ⊥) × HasParts literal b)
IsTokenOf kinds.Mark bs = IsMark bs

-- a text's tokens, or its fault
abbrev pub Answer : Type 0
Answer = Result (List Token) LexFault

-- an answer with a token before the others
abbrev pub with_token : TokenKind → ℕ → ℕ → Answer → Answer
with_token kind start end (Ok tokens) = Ok (record { kind = kind; start = start; end = end } ∷ tokens)
with_token kind start end (Err fault) = Err fault

-- a cause with its place
abbrev pub fault_at : Cause → ℕ → LexFault
fault_at causes.OpenComment at = faults.OpenComment at
fault_at causes.Directive at = faults.Directive at
fault_at causes.BadNumber at = faults.BadNumber at
fault_at causes.NumberTooWide at = faults.NumberTooWide at
fault_at causes.BadByte at = faults.BadByte at

-- the byte where the faulty thing begins, which a want of memory has not
abbrev pub place_of : LexFault → Option ℕ
place_of (faults.OpenComment at) = Some at
place_of (faults.Directive at) = Some at
place_of (faults.BadNumber at) = Some at
place_of (faults.NumberTooWide at) = Some at
place_of (faults.BadByte at) = Some at
place_of faults.NoMemory = None

-- What the text that begins at this place is read as: its tokens, or its first fault.
pub data Lexes : ℕ → List ℕ → Answer → Type 0 where
  done : {at : ℕ} → Lexes at [] (Ok [])
  gap : {at : ℕ} {text : List ℕ} {answer : Answer} (bs rest : List ℕ) → IsSound text → Begins IsGap text bs rest → Lexes (at + length bs) rest answer → Lexes at text answer
  token : {at : ℕ} {text : List ℕ} {answer : Answer} (kind : TokenKind) (bs rest : List ℕ) (others : Answer) → IsSound text → Nowhere IsGap text → Begins IsToken text bs rest → IsTokenOf kind bs
      → Lexes (at + length bs) rest others → answer ≡ with_token kind at (at + length bs) others → Lexes at text answer
  fault : {at : ℕ} {text : List ℕ} (cause : Cause) → IsFault text cause → Lexes at text (Err (fault_at cause at))
  bad_byte : {at : ℕ} (b : ℕ) (bs : List ℕ) → IsSound (b ∷ bs) → Nowhere IsGap (b ∷ bs) → Nowhere IsToken (b ∷ bs) → Lexes at (b ∷ bs) (Err (faults.BadByte at))

-- What a text is read as: its tokens, or its first fault.
abbrev pub Reads : List ℕ → Answer → Type 0
Reads text answer = Lexes 0 text answer
