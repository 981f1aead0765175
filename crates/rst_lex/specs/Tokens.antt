-- The texts of tokens, and how a text begins with one.
use Rattle.std.specs.Prelude.{◌≡◌, ℕ, ◌≤◌, ◌<◌, List, [], ◌∷◌, ◌++◌, length, slice_range}
use Prim.Native.Char.{code}
use Rattle.rst_lex.specs.declared.token.Token.{Token}
use Rattle.rst_lex.specs.Bytes.{is_name_byte, EachByte}
use Rattle.rst_lex.specs.Words.{IsIdentifier}
use Rattle.rst_lex.specs.Marks.{IsMark}
use Rattle.rst_lex.specs.Numbers.{IsDecimal, Based, IsBased}

-- $ and at least one letter, digit, _ or $
abbrev pub IsSystem : List ℕ → Type 0
IsSystem [] = ⊥
IsSystem (a ∷ []) = ⊥
IsSystem (a ∷ b ∷ bs) = (a ≡ code "$") × EachByte is_name_byte (b ∷ bs)

-- the text of a token
pub data IsToken (bs : List ℕ) : Type 0 where
  identifier : IsIdentifier bs → IsToken bs
  system : IsSystem bs → IsToken bs
  decimal : IsDecimal bs → IsToken bs
  based : (b : Based) → IsBased bs b → IsToken bs
  mark : IsMark bs → IsToken bs

-- The text begins with bs, the longest of its kind that fits, and rest follows.
pub record Begins (Kind : List ℕ → Type 0) (text bs rest : List ℕ) : Type 0 where
  pub parts : text ≡ bs ++ rest
  pub fits : Kind bs
  pub longest : (front behind : List ℕ) → text ≡ front ++ behind → Kind front → length front ≤ length bs

-- the bytes of a token
abbrev pub token_text : List ℕ → Token → List ℕ
token_text text token = slice_range text token.start token.end

-- The tokens stand in order and apart, from this place on and within the length.
abbrev pub InOrder : ℕ → ℕ → List Token → Type 0
InOrder from len [] = from ≤ len
InOrder from len (first ∷ tokens) = (from ≤ first.start) × (first.start < first.end) × InOrder first.end len tokens
