-- What counts as white space: white space itself, comments, attributes, and two directives (IEEE 1364-2001, sections 2.2, 2.3, 2.8 and 19).
use Rattle.std.specs.Prelude.{◌≡◌, ℕ, ◌==◌, Bool, false, ◌||◌, not, List, [], ◌∷◌, drop, IsTrue, ◌⊎◌, codes, bytes_eq}
use Rattle.std.specs.List.{prefix_len, take_while}
use Prim.Native.Char.{code}
use Rattle.rst_lex.specs.Bytes.{is_space, is_name_byte, EachByte}

-- one byte of white space
abbrev pub IsWhite : List ℕ → Type 0
IsWhite [] = ⊥
IsWhite (b ∷ []) = IsTrue (is_space b)
IsWhite (b ∷ c ∷ bs) = ⊥

-- a byte within a line
abbrev pub is_in_line : ℕ → Bool
is_in_line b = not (b == code "\n")

-- // and the rest of the line
abbrev pub IsLine : List ℕ → Type 0
IsLine [] = ⊥
IsLine (a ∷ []) = ⊥
IsLine (a ∷ b ∷ bs) = (a ≡ code "/") × (b ≡ code "/") × EachByte is_in_line bs

-- The bytes end with the first place where x and y stand side by side.
abbrev pub EndsAtFirst : ℕ → ℕ → List ℕ → Type 0
EndsAtFirst x y [] = ⊥
EndsAtFirst x y (a ∷ []) = ⊥
EndsAtFirst x y (a ∷ b ∷ bs) = ((a ≡ x) × (b ≡ y) × (bs ≡ [])) ⊎ (((a ≡ x) × (b ≡ y) → ⊥) × EndsAtFirst x y (b ∷ bs))

abbrev pub OpensBlock : List ℕ → Type 0
OpensBlock [] = ⊥
OpensBlock (a ∷ []) = ⊥
OpensBlock (a ∷ b ∷ bs) = (a ≡ code "/") × (b ≡ code "*")

-- from /* up to the first */ behind it
abbrev pub IsBlock : List ℕ → Type 0
IsBlock [] = ⊥
IsBlock (a ∷ []) = ⊥
IsBlock (a ∷ b ∷ bs) = (a ≡ code "/") × (b ≡ code "*") × EndsAtFirst (code "*") (code "/") bs

abbrev pub begins_with_close : List ℕ → Bool
begins_with_close [] = false
begins_with_close (b ∷ bs) = b == code ")"

-- ) stands next, or behind white space
abbrev pub closes_next : List ℕ → Bool
closes_next bs = begins_with_close (drop (prefix_len is_space bs) bs)

-- (* without a ) next to it: that would be the marks of @(*)
abbrev pub OpensAttribute : List ℕ → Type 0
OpensAttribute [] = ⊥
OpensAttribute (a ∷ []) = ⊥
OpensAttribute (a ∷ b ∷ bs) = (a ≡ code "(") × (b ≡ code "*") × (closes_next bs ≡ false)

-- from (* up to the first *) behind it
abbrev pub IsAttribute : List ℕ → Type 0
IsAttribute [] = ⊥
IsAttribute (a ∷ []) = ⊥
IsAttribute (a ∷ b ∷ bs) = (a ≡ code "(") × (b ≡ code "*") × (closes_next bs ≡ false) × EndsAtFirst (code "*") (code ")") bs

-- the word behind a backquote is timescale or default_nettype
abbrev pub is_skipped_directive : List ℕ → Bool
is_skipped_directive bs = bytes_eq (take_while is_name_byte bs) (codes "timescale") || bytes_eq (take_while is_name_byte bs) (codes "default_nettype")

-- a backquote before any other word, or before none
abbrev pub OpensDirective : List ℕ → Type 0
OpensDirective [] = ⊥
OpensDirective (a ∷ bs) = (a ≡ code "`") × (is_skipped_directive bs ≡ false)

-- a backquote, one of the two words, and the rest of the line
abbrev pub IsDirective : List ℕ → Type 0
IsDirective [] = ⊥
IsDirective (a ∷ bs) = (a ≡ code "`") × IsTrue (is_skipped_directive bs) × EachByte is_in_line bs

-- what counts as white space
pub data IsGap (bs : List ℕ) : Type 0 where
  white : IsWhite bs → IsGap bs
  line : IsLine bs → IsGap bs
  block : IsBlock bs → IsGap bs
  attribute : IsAttribute bs → IsGap bs
  directive : IsDirective bs → IsGap bs
