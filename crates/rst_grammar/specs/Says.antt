-- What a list of symbols says, as the right side of a production.
use Rattle.std.specs.Prelude.{◌≡◌, ℕ, List, [], ◌∷◌, ◌++◌}
use Rattle.rst_grammar.specs.declared.symbol.Terminal.{Terminal}
use Rattle.rst_grammar.specs.declared.symbol.Symbol.{Symbol}
use Rattle.rst_grammar.specs.declared.symbol.Symbol.TheVariants as symbol

-- no symbol
pub record Nothing (ts : List Symbol) : Type 0 where
  pub is : ts ≡ []

-- this one symbol
pub record One (s : Symbol) (ts : List Symbol) : Type 0 where
  pub is : ts ≡ s ∷ []

-- one production behind the other
pub record Then (P Q : List Symbol → Type 0) (ts : List Symbol) : Type 0 where
  pub first : List Symbol
  pub second : List Symbol
  pub parts : ts ≡ first ++ second
  pub left : P first
  pub right : Q second

infixr 7 ◌⊗◌
abbrev pub ◌⊗◌ : (List Symbol → Type 0) → (List Symbol → Type 0) → List Symbol → Type 0
P ⊗ Q = Then P Q

-- a quoted text of the grammar
abbrev pub quoted : Terminal → List Symbol → Type 0
quoted t = One (symbol.Terminal t)

-- a name
abbrev pub named : List ℕ → List Symbol → Type 0
named n = One (symbol.Name n)
