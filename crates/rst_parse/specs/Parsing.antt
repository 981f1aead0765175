-- What the tokens of a text are parsed as.
use Rattle.std.specs.Prelude.{◌≡◌, ℕ, ◌+◌, ◌<◌, ◌≤◌, List, [], ◌∷◌, length, ◌⊎◌, Some, None, Result, Ok, Err}
use Rattle.rst_lex.specs.declared.token.Token.{Token}
use Rattle.rst_tree.specs.declared.module.Source.{Source}
use Rattle.rst_tree.specs.Modules.{PlainModule, height_of_module, plain_source}
use Rattle.rst_grammar.specs.declared.symbol.Symbol.{Symbol}
use Rattle.rst_grammar.specs.Modules.{SpellsModule}
use Rattle.rst_parse.specs.declared.parser.ParseFault.{ParseFault}
use Rattle.rst_parse.specs.declared.parser.ParseFault.TheVariants as faults
use Rattle.rst_parse.specs.Symbols.{first_refused, AreSymbols}
use Rattle.rst_parse.specs.Pieces.{pieces}

-- The piece spells this module, of a height that is accepted.
pub record IsModuleOf (m : PlainModule) (piece : List Symbol) : Type 0 where
  pub spelled : SpellsModule m piece
  pub within : height_of_module m ≤ 200

-- The piece is no module of the grammar, or only one that is too high.
abbrev pub IsNoModule : List Symbol → Type 0
IsNoModule piece = (m : PlainModule) → IsModuleOf m piece → ⊥

-- The modules of a text in plain form, or why it has none.
abbrev pub Answer : Type 0
Answer = Result (List PlainModule) ParseFault

-- an answer with a module before the others
abbrev pub with_module : PlainModule → Answer → Answer
with_module m (Ok modules) = Ok (m ∷ modules)
with_module m (Err fault) = Err fault

-- What pieces are read as, where the first token of the first has this number: the module of each, or the first piece
-- that is none, by the number of its first token.
abbrev pub ReadsPieces : ℕ → List (List Symbol) → Answer → Type 0
ReadsPieces at [] answer = answer ≡ Ok []
ReadsPieces at (piece ∷ others) answer =
    (IsNoModule piece × (answer ≡ Err (faults.NoTree at)))
    ⊎ ((m : PlainModule) × (more : Answer) × IsModuleOf m piece × ReadsPieces (at + length piece) others more × (answer ≡ with_module m more))

-- The fault names the first refused token.
abbrev pub IsRefusal : List ℕ → List Token → ParseFault → Type 0
IsRefusal text tokens fault = (i : ℕ) × (first_refused text tokens ≡ Some i) × (fault ≡ faults.Unsupported i)

-- What the tokens of a text are parsed as. A refused token comes first, wherever it stands.
pub data Parses (text : List ℕ) (tokens : List Token) (answer : Answer) : Type 0 where
  refused : (i : ℕ) → first_refused text tokens ≡ Some i → answer ≡ Err (faults.Unsupported i) → Parses text tokens answer
  read : (symbols : List Symbol) → first_refused text tokens ≡ None → AreSymbols text tokens symbols → ReadsPieces 0 (pieces symbols) answer → Parses text tokens answer

-- what was answered, in plain form
abbrev pub plain_answer : Result Source ParseFault → Answer
plain_answer (Ok source) = Ok (plain_source source)
plain_answer (Err fault) = Err fault

-- The fault names one of so many tokens, where it names one.
abbrev pub NamesToken : ℕ → ParseFault → Type 0
NamesToken count (faults.Unsupported i) = i < count
NamesToken count (faults.NoTree i) = i < count
NamesToken count faults.NoMemory = Unit {0}
