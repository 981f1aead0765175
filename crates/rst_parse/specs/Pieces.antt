-- The pieces of a text: one for each module.
use Rattle.std.specs.Prelude.{ℕ, suc, List, [], ◌∷◌, Bool, true, false, if◌then◌else◌}
use Rattle.rst_grammar.specs.declared.symbol.Terminal.TheVariants as terminal
use Rattle.rst_grammar.specs.declared.symbol.Symbol.{Symbol}
use Rattle.rst_grammar.specs.declared.symbol.Symbol.TheVariants as symbol

abbrev pub is_endmodule : Symbol → Bool
is_endmodule (symbol.Terminal terminal.Endmodule) = true
is_endmodule _ = false

-- pieces with one symbol more in front of the first
abbrev pub with_symbol : Symbol → List (List Symbol) → List (List Symbol)
with_symbol s [] = (s ∷ []) ∷ []
with_symbol s (piece ∷ pieces) = (s ∷ piece) ∷ pieces

-- Symbols are cut behind each `endmodule`. Those behind the last one are a piece of their own.
abbrev pub pieces : List Symbol → List (List Symbol)
pieces [] = []
pieces (s ∷ ss) = if is_endmodule s then (s ∷ []) ∷ pieces ss else with_symbol s (pieces ss)

-- how many symbols the first piece has
unfoldable pub piece_len : List Symbol → ℕ
piece_len [] = 0
piece_len (s ∷ ss) = if is_endmodule s then 1 else suc (piece_len ss)
