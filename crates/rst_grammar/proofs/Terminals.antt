-- The terminal in front, from the readers' test.
use Rattle.std.proofs.Common.{◌≡◌, ◌∙◌, List, [], ◌∷◌, Some, get_or, true, nat_eq, refl, sym, ap}
use Rattle.std.proofs.lemmas.Bool.{eqb-true}
use Rattle.rst_grammar.specs.declared.symbol.Terminal.{Terminal}
use Rattle.rst_grammar.specs.declared.symbol.Terminal.TheVariants as terminal
use Rattle.rst_grammar.specs.declared.symbol.Symbol.{Symbol}
use Rattle.rst_grammar.specs.declared.symbol.Symbol.TheVariants as symbol
use Rattle.rst_grammar.specs.Reading.{after, number_of}
use Rattle.rst_grammar.proofs.Tools.{guard_some}

-- the terminals by their numbers
terminals : List Terminal
terminals = terminal.OpenParen ∷ terminal.CloseParen ∷ terminal.OpenBracket ∷ terminal.CloseBracket ∷ terminal.OpenBrace ∷ terminal.CloseBrace ∷ terminal.Comma ∷ terminal.Semicolon ∷ terminal.Colon ∷ terminal.Dot ∷ terminal.Hash ∷ terminal.At ∷ terminal.Equal ∷ terminal.Question ∷ terminal.Plus ∷ terminal.Minus ∷ terminal.Bang ∷ terminal.Tilde ∷ terminal.Amp ∷ terminal.Bar ∷ terminal.Caret ∷ terminal.Star ∷ terminal.Slash ∷ terminal.Percent ∷ terminal.Less ∷ terminal.Greater ∷ terminal.ShiftLeft ∷ terminal.ShiftRight ∷ terminal.ArithShiftLeft ∷ terminal.ArithShiftRight ∷ terminal.LessEqual ∷ terminal.GreaterEqual ∷ terminal.EqualEqual ∷ terminal.BangEqual ∷ terminal.AmpAmp ∷ terminal.BarBar ∷ terminal.TildeAmp ∷ terminal.TildeBar ∷ terminal.TildeCaret ∷ terminal.Module ∷ terminal.Endmodule ∷ terminal.Input ∷ terminal.Output ∷ terminal.Wire ∷ terminal.Reg ∷ terminal.Signed ∷ terminal.Parameter ∷ terminal.Localparam ∷ terminal.Assign ∷ terminal.Always ∷ terminal.Posedge ∷ terminal.Negedge ∷ terminal.Or ∷ terminal.Begin ∷ terminal.End ∷ terminal.If ∷ terminal.Else ∷ terminal.Case ∷ terminal.Casez ∷ terminal.Default ∷ terminal.Endcase ∷ terminal.SystemSigned ∷ terminal.SystemUnsigned ∷ []

numbered : (t : Terminal) → get_or terminals (number_of t) terminal.Comma ≡ t
unfolding terminals
numbered terminal.OpenParen = refl
numbered terminal.CloseParen = refl
numbered terminal.OpenBracket = refl
numbered terminal.CloseBracket = refl
numbered terminal.OpenBrace = refl
numbered terminal.CloseBrace = refl
numbered terminal.Comma = refl
numbered terminal.Semicolon = refl
numbered terminal.Colon = refl
numbered terminal.Dot = refl
numbered terminal.Hash = refl
numbered terminal.At = refl
numbered terminal.Equal = refl
numbered terminal.Question = refl
numbered terminal.Plus = refl
numbered terminal.Minus = refl
numbered terminal.Bang = refl
numbered terminal.Tilde = refl
numbered terminal.Amp = refl
numbered terminal.Bar = refl
numbered terminal.Caret = refl
numbered terminal.Star = refl
numbered terminal.Slash = refl
numbered terminal.Percent = refl
numbered terminal.Less = refl
numbered terminal.Greater = refl
numbered terminal.ShiftLeft = refl
numbered terminal.ShiftRight = refl
numbered terminal.ArithShiftLeft = refl
numbered terminal.ArithShiftRight = refl
numbered terminal.LessEqual = refl
numbered terminal.GreaterEqual = refl
numbered terminal.EqualEqual = refl
numbered terminal.BangEqual = refl
numbered terminal.AmpAmp = refl
numbered terminal.BarBar = refl
numbered terminal.TildeAmp = refl
numbered terminal.TildeBar = refl
numbered terminal.TildeCaret = refl
numbered terminal.Module = refl
numbered terminal.Endmodule = refl
numbered terminal.Input = refl
numbered terminal.Output = refl
numbered terminal.Wire = refl
numbered terminal.Reg = refl
numbered terminal.Signed = refl
numbered terminal.Parameter = refl
numbered terminal.Localparam = refl
numbered terminal.Assign = refl
numbered terminal.Always = refl
numbered terminal.Posedge = refl
numbered terminal.Negedge = refl
numbered terminal.Or = refl
numbered terminal.Begin = refl
numbered terminal.End = refl
numbered terminal.If = refl
numbered terminal.Else = refl
numbered terminal.Case = refl
numbered terminal.Casez = refl
numbered terminal.Default = refl
numbered terminal.Endcase = refl
numbered terminal.SystemSigned = refl
numbered terminal.SystemUnsigned = refl

-- no two have one number
pub same_terminal : (s t : Terminal) → nat_eq (number_of s) (number_of t) ≡ true → s ≡ t
same_terminal s t e = sym (numbered s) ∙ ap (λ n. get_or terminals n terminal.Comma) (eqb-true _ _ e) ∙ numbered t

pub after_is : (t : Terminal) (ts rest : List Symbol) → after t ts ≡ Some rest → ts ≡ symbol.Terminal t ∷ rest
after_is t [] rest e = absurd cc
after_is t (symbol.Name n ∷ ts) rest e = absurd cc
after_is t (symbol.Number n ∷ ts) rest e = absurd cc
after_is t (symbol.Terminal s ∷ ts) rest e =
    let g = guard_some (nat_eq (number_of s) (number_of t)) (Some ts) rest e in
    let same = same_terminal s t g.0 in
    let tail : ts ≡ rest = cc in
    ap (λ x. symbol.Terminal x ∷ ts) same ∙ ap (λ (xs : List Symbol). symbol.Terminal t ∷ xs) tail
