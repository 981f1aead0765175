-- Readers of parts and lists, over any part. They say what the code computes; the grammar itself is in Productions and
-- the files behind it.
use Rattle.std.specs.Prelude.{ℕ, zero, suc, length, List, [], ◌∷◌, Bool, true, false, Option, Some, None}
use Rattle.rst_tree.specs.Trees.{Text}
use Rattle.rst_grammar.specs.declared.symbol.Terminal.{Terminal}
use Rattle.rst_grammar.specs.declared.symbol.Terminal.TheVariants as terminal
use Rattle.rst_grammar.specs.declared.symbol.Symbol.{Symbol}
use Rattle.rst_grammar.specs.declared.symbol.Symbol.TheVariants as symbol
use Rattle.rst_grammar.specs.Reading.{◌>>=◌, cases, after}

-- a part, and the symbols after it
abbrev pub ReaderOf : Type 0 → Type 0
ReaderOf A = List Symbol → Option (A × List Symbol)

-- a name
unfoldable pub name_in : ReaderOf Text
name_in (symbol.Name n ∷ rest) = Some (n, rest)
name_in _ = None

-- what is made of a part
unfoldable pub mapped : {A B : Type 0} → (A → B) → ReaderOf A → ReaderOf B
mapped make one ts = one ts >>= λ x. Some (make x.0, x.1)

-- one part, and another behind it
unfoldable pub both : {A B : Type 0} → ReaderOf A → ReaderOf B → ReaderOf (A × B)
both one other ts = do
  x ← one ts
  y ← other x.1
  Some ((x.0, y.0), y.1)

-- a terminal, and a part behind it
unfoldable pub behind : {A : Type 0} → Terminal → ReaderOf A → ReaderOf A
behind t one ts = after t ts >>= λ rest. one rest

-- a part, and a terminal behind it
unfoldable pub up_to : {A : Type 0} → Terminal → ReaderOf A → ReaderOf A
up_to t one ts = do
  x ← one ts
  rest ← after t x.1
  Some (x.0, rest)

-- a part where the terminal stands in front of it, else nothing
unfoldable pub optional : {A : Type 0} → Terminal → ReaderOf A → ReaderOf (Option A)
optional t one ts = cases (after t ts) (Some (None, ts)) (λ rest. one rest >>= λ x. Some (Some x.0, x.1))

-- whether the terminal stands in front
unfoldable pub flag : Terminal → ReaderOf Bool
flag t ts = cases (after t ts) (Some (false, ts)) (λ rest. Some (true, rest))

-- Separators and parts, at most this many, where `next` gives the symbols behind a separator in front.
unfoldable pub more_separated : {A : Type 0} → (List Symbol → Option (List Symbol)) → ReaderOf A → ℕ → ReaderOf (List A)
more_separated next one zero ts = Some ([], ts)
more_separated next one (suc most) ts = cases (next ts) (Some ([], ts)) (λ rest. do
  first ← one rest
  others ← more_separated next one most first.1
  Some (first.0 ∷ others.0, others.1))

-- parts with separators between them, one part at least
unfoldable pub separated : {A : Type 0} → (List Symbol → Option (List Symbol)) → ReaderOf A → ReaderOf (List A)
separated next one ts = do
  first ← one ts
  others ← more_separated next one (length first.1) first.1
  Some (first.0 ∷ others.0, others.1)

-- the symbols behind a comma
unfoldable pub comma : List Symbol → Option (List Symbol)
comma ts = after terminal.Comma ts

-- the symbols behind a comma with a name behind it
unfoldable pub comma_before_name : List Symbol → Option (List Symbol)
comma_before_name (symbol.Terminal terminal.Comma ∷ symbol.Name n ∷ rest) = Some (symbol.Name n ∷ rest)
comma_before_name _ = None

-- parts, at most this many, up to a terminal
unfoldable pub until : {A : Type 0} → Terminal → ReaderOf A → ℕ → ReaderOf (List A)
until t one zero ts = None
until t one (suc most) ts = cases (after t ts) (do
  first ← one ts
  others ← until t one most first.1
  Some (first.0 ∷ others.0, others.1)) (λ rest. Some ([], rest))
