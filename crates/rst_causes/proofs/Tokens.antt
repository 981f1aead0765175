-- Tokens of a text lie inside it.
use Rattle.std.proofs.Common.{◌≡◌, ℕ, ◌<◌, ◌≤◌, List, length, get_or, Ok}
use Rattle.rst_lex.specs.declared.token.Token.{Token}
use Rattle.rst_lex.specs.Lexing.{Reads}
use Rattle.rst_lex.proofs.LexLoop.{in_order}
use Rattle.rst_parse.proofs.SymbolSteps.{token_within}

-- a token of a text lies inside it
pub token_place : (text : List ℕ) (tokens : List Token) (i : ℕ) (token : Token) → Reads text (Ok tokens) → i < length tokens → token ≡ get_or tokens i token
    → (token.start ≤ token.end) × (token.end ≤ length text)
token_place text tokens i token r within is = token_within (length text) tokens 0 i token (in_order text tokens r) within is

pub ruleset places = (token_place)
