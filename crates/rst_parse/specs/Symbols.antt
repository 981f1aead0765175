-- What a token is to the grammar, and which tokens the profile refuses.
use Rattle.std.specs.Prelude.{◌≡◌, ℕ, List, [], ◌∷◌, map, Bool, false, not, Option, Some, codes}
use Rattle.std.specs.Option.{option_map}
use Rattle.std.specs.List.{position_from}
use Rattle.rst_lex.specs.declared.token.Token.{Token}
use Rattle.rst_lex.specs.declared.token.TokenKind.{TokenKind}
use Rattle.rst_lex.specs.declared.token.TokenKind.TheVariants as kinds
use Rattle.rst_lex.specs.Tokens.{token_text}
use Rattle.rst_lex.specs.Words.{is_listed, is_refused_keyword}
use Rattle.rst_grammar.specs.declared.symbol.Terminal.{Terminal}
use Rattle.rst_grammar.specs.declared.symbol.Symbol.{Symbol}
use Rattle.rst_grammar.specs.declared.symbol.Symbol.TheVariants as symbol
use Rattle.rst_parse.specs.Spelling.{keywords, marks, functions, terminal_in}

-- A refused keyword, one of the marks === !== **, or a system token other than $signed and $unsigned.
abbrev pub is_refused : TokenKind → List ℕ → Bool
is_refused kinds.Keyword text = is_refused_keyword text
is_refused kinds.Mark text = is_listed (codes "===" ∷ codes "!==" ∷ codes "**" ∷ []) text
is_refused kinds.System text = not (is_listed (codes "$signed" ∷ codes "$unsigned" ∷ []) text)
is_refused kinds.Name text = false
is_refused (kinds.Number literal) text = false

abbrev pub is_refused_token : List ℕ → Token → Bool
is_refused_token text token = is_refused token.kind (token_text text token)

-- the number of the first refused token of a text, from 0
abbrev pub first_refused : List ℕ → List Token → Option ℕ
first_refused text tokens = position_from (is_refused_token text) 0 tokens

-- a terminal as a symbol
abbrev pub terminal_symbol : Terminal → Symbol
terminal_symbol t = symbol.Terminal t

-- A name is a symbol by its text, a number by its literal, and any other token by the terminal that it spells. A token
-- that spells none is no symbol.
abbrev pub symbol_of : TokenKind → List ℕ → Option Symbol
symbol_of kinds.Name text = Some (symbol.Name text)
symbol_of (kinds.Number literal) text = Some (symbol.Number literal)
symbol_of kinds.Keyword text = option_map terminal_symbol (terminal_in keywords text)
symbol_of kinds.Mark text = option_map terminal_symbol (terminal_in marks text)
symbol_of kinds.System text = option_map terminal_symbol (terminal_in functions text)

abbrev pub token_symbol : List ℕ → Token → Option Symbol
token_symbol text token = symbol_of token.kind (token_text text token)

-- Each token of the text is a symbol, and these are they.
abbrev pub AreSymbols : List ℕ → List Token → List Symbol → Type 0
AreSymbols text tokens symbols = map (token_symbol text) tokens ≡ map (λ s. Some s) symbols
