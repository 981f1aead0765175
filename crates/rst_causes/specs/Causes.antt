-- What a refusal names of each fault: its code, its file, a name and a number. A want of memory is no refusal.
use Rattle.std.specs.Prelude.{ℕ, ◌+◌, List, codes, Option, Some, None, slice_get}
use Rattle.std.specs.Option.{option_map}
use Rattle.rst_lex.specs.declared.lexer.LexFault.{LexFault}
use Rattle.rst_lex.specs.declared.lexer.LexFault.TheVariants as lexing
use Rattle.rst_lex.specs.declared.token.Token.{Token}
use Rattle.rst_lex.specs.Lines.{newlines_before}
use Rattle.rst_lex.specs.Tokens.{token_text}
use Rattle.rst_parse.specs.declared.parser.ParseFault.{ParseFault}
use Rattle.rst_parse.specs.declared.parser.ParseFault.TheVariants as parsing
use Rattle.rst_names.specs.declared.faults.ElabCode.{ElabCode}
use Rattle.rst_names.specs.declared.faults.ElabCode.TheVariants as elaboration
use Rattle.rst_names.specs.Faults.{Fault}
use Rattle.rst_flow.specs.declared.flowing.FlowError.{FlowError}
use Rattle.rst_flow.specs.declared.flowing.FlowError.TheVariants as flow
use Rattle.rst_script.specs.declared.script.ScriptFault.{ScriptFault}
use Rattle.rst_script.specs.declared.script.ScriptFault.TheVariants as script
use Rattle.rst_reject.specs.declared.code.Code.{Code}
use Rattle.rst_reject.specs.declared.code.Code.TheVariants as code
use Rattle.rst_reject.specs.declared.reject.Reject.{Reject}
use Rattle.rst_reject.specs.Rejects.{at_line, at_name, in_design}

-- ---- tokens and trees: the number is the line of the place in the text, counted from 1

abbrev pub line_at : List ℕ → ℕ → ℕ
line_at text at = 1 + newlines_before text at

-- the line where the faulty thing begins
abbrev pub lexing_reject : ℕ → List ℕ → LexFault → Option Reject
lexing_reject file text (lexing.BadByte at) = Some (at_line code.BadByte file (line_at text at))
lexing_reject file text (lexing.OpenComment at) = Some (at_line code.OpenComment file (line_at text at))
lexing_reject file text (lexing.BadNumber at) = Some (at_line code.BadNumber file (line_at text at))
lexing_reject file text (lexing.NumberTooWide at) = Some (at_line code.NumberTooWide file (line_at text at))
lexing_reject file text (lexing.Directive at) = Some (at_line code.Directive file (line_at text at))
lexing_reject file text lexing.NoMemory = None

-- a token that is refused: its text and its line
abbrev pub refused_token : ℕ → List ℕ → Token → Reject
refused_token file text token = at_name code.Unsupported file (token_text text token) (line_at text token.start)

-- a piece of a text that is no module: the line of its first token
abbrev pub no_module : ℕ → List ℕ → Token → Reject
no_module file text first = at_line code.NoTree file (line_at text first.start)

abbrev pub parsing_reject : ℕ → List ℕ → List Token → ParseFault → Option Reject
parsing_reject file text tokens (parsing.Unsupported i) = option_map (refused_token file text) (slice_get tokens i)
parsing_reject file text tokens (parsing.NoTree i) = option_map (no_module file text) (slice_get tokens i)
parsing_reject file text tokens parsing.NoMemory = None

-- ---- the design: the name and the number are those of the fault

abbrev pub elaboration_code : ElabCode → Code
elaboration_code elaboration.TwoModules = code.TwoModules
elaboration_code elaboration.NoTop = code.NoTop
elaboration_code elaboration.NoModule = code.NoModule
elaboration_code elaboration.Recursive = code.Recursive
elaboration_code elaboration.Twice = code.Twice
elaboration_code elaboration.BadPort = code.BadPort
elaboration_code elaboration.NoName = code.NoName
elaboration_code elaboration.BadConnect = code.BadConnect
elaboration_code elaboration.NoParameter = code.NoParameter
elaboration_code elaboration.NotConstant = code.NotConstant
elaboration_code elaboration.ZeroDivisor = code.ZeroDivisor
elaboration_code elaboration.TooWide = code.TooWide
elaboration_code elaboration.ZeroWidth = code.ZeroWidth
elaboration_code elaboration.BadSelect = code.BadSelect
elaboration_code elaboration.MayLeaveRange = code.MayLeaveRange
elaboration_code elaboration.BadRange = code.BadRange
elaboration_code elaboration.BadTarget = code.BadTarget
elaboration_code elaboration.PortWidth = code.PortWidth
elaboration_code elaboration.ClockMissing = code.ClockMissing
elaboration_code elaboration.Edges = code.Edges
elaboration_code elaboration.ClockMisused = code.ClockMisused
elaboration_code elaboration.ResetMisused = code.ResetMisused
elaboration_code elaboration.ManyDrivers = code.ManyDrivers
elaboration_code elaboration.Undriven = code.Undriven
elaboration_code elaboration.Limit = code.Limit

abbrev pub elaboration_reject : Fault → Reject
elaboration_reject f = in_design (elaboration_code f.code) f.name f.number

-- a design that weighs too much is refused at `Weight`
abbrev pub flow_reject : FlowError → Option Reject
flow_reject (flow.Blocking name) = Some (in_design code.Blocking name 0)
flow_reject (flow.Sensitivity name) = Some (in_design code.Sensitivity name 0)
flow_reject (flow.Latch name) = Some (in_design code.Latch name 0)
flow_reject (flow.Loop name) = Some (in_design code.Loop name 0)
flow_reject flow.Limit = Some (in_design code.Limit (codes "Weight") 0)
flow_reject flow.NoMemory = None

-- ---- the script: the number is the line

abbrev pub script_reject : ℕ → ScriptFault → Option Reject
script_reject file (script.BadLine line) = Some (at_line code.BadLine file line)
script_reject file (script.Repeated line) = Some (at_line code.Repeated file line)
script_reject file (script.TooMany line) = Some (at_line code.TooMany file line)
script_reject file (script.BadName line) = Some (at_line code.BadName file line)
script_reject file (script.BadValue line) = Some (at_line code.BadValue file line)
script_reject file (script.TooFree line) = Some (at_line code.TooFree file line)
script_reject file script.NoMemory = None
