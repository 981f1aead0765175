-- What the texts of a design spell, and what they come to: all their modules, or the first text that has none.
use Rattle.std.specs.Prelude.{◌≡◌, ℕ, ◌+◌, ◌≤◌, List, [], ◌∷◌, ◌++◌, length, map, Some, Result, Ok, Err}
use Rattle.std.specs.declared.vec.Vec.{Vec}
use Rattle.std.specs.declared.alloc.Global.{Global}
use Rattle.rst_lex.specs.declared.lexer.LexFault.{LexFault}
use Rattle.rst_lex.specs.declared.token.Token.{Token}
use Rattle.rst_lex.specs.Lexing.{Reads}
use Rattle.rst_tree.specs.Trees.{Text}
use Rattle.rst_tree.specs.Modules.{PlainModule}
use Rattle.rst_parse.specs.declared.parser.ParseFault.{ParseFault}
use Rattle.rst_parse.specs.Parsing.{Parses}
use Rattle.rst_reject.specs.declared.reject.Reject.{Reject}
use Rattle.rst_reject.specs.Steps.{Then}
use Rattle.rst_causes.specs.Causes.{lexing_reject, parsing_reject}

-- the texts of files
abbrev pub texts_of : List (Vec ℕ Global) → List Text
texts_of files = map (λ file. file.items) files

-- a file of at most 1,048,576 bytes
abbrev pub IsShort : Vec ℕ Global → Type 0
IsShort file = length file.items ≤ 1048576

-- ---- what texts spell

-- the text is lexed into tokens, and these are parsed into modules
pub record SpellsModules (text : Text) (modules : List PlainModule) : Type 0 where
  pub tokens : List Token
  pub lexed : Reads text (Ok tokens)
  pub parsed : Parses text tokens (Ok modules)

-- each text spells modules, and these are all of them, in the order of the texts
abbrev pub Spells : List Text → List PlainModule → Type 0
Spells [] all = all ≡ []
Spells (text ∷ texts) all =
    (modules : List PlainModule) × (others : List PlainModule) × SpellsModules text modules × Spells texts others × (all ≡ modules ++ others)

-- ---- what texts come to, step by step; `file` is the number of the text

-- its tokens, or the refusal of its first lexical fault
abbrev pub LexingGives : ℕ → Text → Result (List Token) Reject → Type 0
LexingGives file text (Ok tokens) = Reads text (Ok tokens)
LexingGives file text (Err r) = (fault : LexFault) × Reads text (Err fault) × (lexing_reject file text fault ≡ Some r)

-- the modules of its tokens, or the refusal of their first fault
abbrev pub ParsingGives : ℕ → Text → List Token → Result (List PlainModule) Reject → Type 0
ParsingGives file text tokens (Ok modules) = Parses text tokens (Ok modules)
ParsingGives file text tokens (Err r) = (fault : ParseFault) × Parses text tokens (Err fault) × (parsing_reject file text tokens fault ≡ Some r)

-- a text: its tokens, and right behind them its modules
abbrev pub TextGives : ℕ → Text → Result (List PlainModule) Reject → Type 0
TextGives file text = Then (LexingGives file text) (ParsingGives file text)

-- texts from this number on: the first, and behind it the others
abbrev pub TextsGive : ℕ → List Text → Result (List PlainModule) Reject → Type 0
TextsGive file [] answer = answer ≡ Ok []
TextsGive file (text ∷ texts) answer =
    Then (TextGives file text) (λ modules. Then (TextsGive (file + 1) texts) (λ others all. all ≡ Ok (modules ++ others))) answer
