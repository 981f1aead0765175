-- Productions over any part: a part that may be left out, parts in a row, and parts with a separator between them.
use Rattle.std.specs.Prelude.{List, [], ◌∷◌, Bool, true, false, Option, Some, None}
use Rattle.rst_grammar.specs.declared.symbol.Terminal.{Terminal}
use Rattle.rst_grammar.specs.declared.symbol.Terminal.TheVariants as terminal
use Rattle.rst_grammar.specs.declared.symbol.Symbol.{Symbol}
use Rattle.rst_grammar.specs.Says.{Nothing, ◌⊗◌, quoted}

-- which symbols spell a part
abbrev pub ProductionOf : Type 0 → Type 1
ProductionOf A = A → List Symbol → Type 0

-- [ P ]
abbrev pub Optional : {A : Type 0} → ProductionOf A → ProductionOf (Option A)
Optional P None ts = Nothing ts
Optional P (Some x) ts = P x ts

-- [ t ], which says a truth value
abbrev pub Flag : Terminal → ProductionOf Bool
Flag t true ts = quoted t ts
Flag t false ts = Nothing ts

-- { P }
abbrev pub Repeated : {A : Type 0} → ProductionOf A → ProductionOf (List A)
Repeated P [] ts = Nothing ts
Repeated P (x ∷ xs) ts = (P x ⊗ Repeated P xs) ts

-- { Separator P }
abbrev pub MoreSeparated : {A : Type 0} → (List Symbol → Type 0) → ProductionOf A → ProductionOf (List A)
MoreSeparated Separator P [] ts = Nothing ts
MoreSeparated Separator P (x ∷ xs) ts = (Separator ⊗ P x ⊗ MoreSeparated Separator P xs) ts

-- P { Separator P }
abbrev pub Separated : {A : Type 0} → (List Symbol → Type 0) → ProductionOf A → ProductionOf (List A)
Separated Separator P [] ts = ⊥
Separated Separator P (x ∷ xs) ts = (P x ⊗ MoreSeparated Separator P xs) ts

-- P { "," P }
abbrev pub Listed : {A : Type 0} → ProductionOf A → ProductionOf (List A)
Listed P = Separated (quoted terminal.Comma) P
