-- How the terminals of the grammar are spelled.
use Rattle.std.specs.Prelude.{ℕ, List, [], ◌∷◌, Option, Some, None, bytes_eq, codes, if◌then◌else◌}
use Rattle.rst_grammar.specs.declared.symbol.Terminal.{Terminal}
use Rattle.rst_grammar.specs.declared.symbol.Terminal.TheVariants as terminal

-- a text with the terminal that it spells
abbrev pub Row : Type 0
Row = List ℕ × Terminal

abbrev pub keywords : List Row
keywords = (codes "module", terminal.Module)
    ∷ (codes "endmodule", terminal.Endmodule)
    ∷ (codes "input", terminal.Input)
    ∷ (codes "output", terminal.Output)
    ∷ (codes "wire", terminal.Wire)
    ∷ (codes "reg", terminal.Reg)
    ∷ (codes "signed", terminal.Signed)
    ∷ (codes "parameter", terminal.Parameter)
    ∷ (codes "localparam", terminal.Localparam)
    ∷ (codes "assign", terminal.Assign)
    ∷ (codes "always", terminal.Always)
    ∷ (codes "posedge", terminal.Posedge)
    ∷ (codes "negedge", terminal.Negedge)
    ∷ (codes "or", terminal.Or)
    ∷ (codes "begin", terminal.Begin)
    ∷ (codes "end", terminal.End)
    ∷ (codes "if", terminal.If)
    ∷ (codes "else", terminal.Else)
    ∷ (codes "case", terminal.Case)
    ∷ (codes "casez", terminal.Casez)
    ∷ (codes "default", terminal.Default)
    ∷ (codes "endcase", terminal.Endcase)
    ∷ []

-- ^~ is another spelling of ~^
abbrev pub marks : List Row
marks = (codes "(", terminal.OpenParen)
    ∷ (codes ")", terminal.CloseParen)
    ∷ (codes "[", terminal.OpenBracket)
    ∷ (codes "]", terminal.CloseBracket)
    ∷ (codes "{", terminal.OpenBrace)
    ∷ (codes "}", terminal.CloseBrace)
    ∷ (codes ",", terminal.Comma)
    ∷ (codes ";", terminal.Semicolon)
    ∷ (codes ":", terminal.Colon)
    ∷ (codes ".", terminal.Dot)
    ∷ (codes "#", terminal.Hash)
    ∷ (codes "@", terminal.At)
    ∷ (codes "=", terminal.Equal)
    ∷ (codes "?", terminal.Question)
    ∷ (codes "+", terminal.Plus)
    ∷ (codes "-", terminal.Minus)
    ∷ (codes "!", terminal.Bang)
    ∷ (codes "~", terminal.Tilde)
    ∷ (codes "&", terminal.Amp)
    ∷ (codes "|", terminal.Bar)
    ∷ (codes "^", terminal.Caret)
    ∷ (codes "*", terminal.Star)
    ∷ (codes "/", terminal.Slash)
    ∷ (codes "%", terminal.Percent)
    ∷ (codes "<", terminal.Less)
    ∷ (codes ">", terminal.Greater)
    ∷ (codes "<<", terminal.ShiftLeft)
    ∷ (codes ">>", terminal.ShiftRight)
    ∷ (codes "<<<", terminal.ArithShiftLeft)
    ∷ (codes ">>>", terminal.ArithShiftRight)
    ∷ (codes "<=", terminal.LessEqual)
    ∷ (codes ">=", terminal.GreaterEqual)
    ∷ (codes "==", terminal.EqualEqual)
    ∷ (codes "!=", terminal.BangEqual)
    ∷ (codes "&&", terminal.AmpAmp)
    ∷ (codes "||", terminal.BarBar)
    ∷ (codes "~&", terminal.TildeAmp)
    ∷ (codes "~|", terminal.TildeBar)
    ∷ (codes "~^", terminal.TildeCaret)
    ∷ (codes "^~", terminal.TildeCaret)
    ∷ []

abbrev pub functions : List Row
functions = (codes "$signed", terminal.SystemSigned) ∷ (codes "$unsigned", terminal.SystemUnsigned) ∷ []

-- the terminal that a text spells in a table, if it stands there
abbrev pub terminal_in : List Row → List ℕ → Option Terminal
terminal_in [] text = None
terminal_in (row ∷ rows) text = if bytes_eq row.0 text then Some row.1 else terminal_in rows text
