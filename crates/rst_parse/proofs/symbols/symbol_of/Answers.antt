use Rattle.std.proofs.Common.{sym, ap, ◌∙◌}
use Rattle.std.specs.Option.{is_none, option_map}
use Rattle.rst_parse.specs.Symbols.{terminal_symbol, symbol_of}
use Rattle.rst_parse.proofs.Refused.{symbol_settled}
use Rattle.rst_parse.proofs.symbols.symbol_of.Goals as goal

pub returns-in-Keyword-clause-refused : goal.returns-in-Keyword-clause-refused
returns-in-Keyword-clause-refused c =
    ap is_none (c.terminal_symbol.ensures ∙ ap (option_map terminal_symbol) c.keyword_of.ensures ∙ ap (λ k. symbol_of k c.args.text.now) (sym c.in-Keyword.is))
    ∙ symbol_settled c.args.kind c.args.text.now c.requires

pub returns-in-Mark-clause-refused : goal.returns-in-Mark-clause-refused
returns-in-Mark-clause-refused c =
    ap is_none (c.terminal_symbol-in-Mark.ensures ∙ ap (option_map terminal_symbol) c.mark_of.ensures ∙ ap (λ k. symbol_of k c.args.text.now) (sym c.in-Mark.is))
    ∙ symbol_settled c.args.kind c.args.text.now c.requires

pub returns-in-System-clause-refused : goal.returns-in-System-clause-refused
returns-in-System-clause-refused c =
    ap is_none (c.terminal_symbol-in-System.ensures ∙ ap (option_map terminal_symbol) c.function_of.ensures ∙ ap (λ k. symbol_of k c.args.text.now) (sym c.in-System.is))
    ∙ symbol_settled c.args.kind c.args.text.now c.requires
