use Rattle.std.proofs.Common.{◌≡◌, Ok, Err, Some, subst}
use Rattle.std.proofs.lemmas.Result.{err_from_is_err_and}
use Rattle.rst_tree.specs.Modules.{plain_source}
use Rattle.rst_parse.specs.Parsing.{Parses}
use Rattle.rst_reject.specs.Rejects.{IfRejected}
use Rattle.rst_causes.specs.Causes.{parsing_reject}
use Rattle.rst_reject.proofs.Steps.{stops_first, stops_behind}
use Rattle.rst_design.specs.Texts.{LexingGives, ParsingGives}
use Rattle.rst_design.proofs.Turns.{parsing_refused}
use Rattle.rst_design.proofs.texts.source_of.Goals as goal

pub returns-in_err-tokens-clause-refused : goal.returns-in_err-tokens-clause-refused
returns-in_err-tokens-clause-refused c =
    let p = err_from_is_err_and c.from_residual.result c.from_residual.ensures.1 in
    rw (p.1, p.2) (stops_first (LexingGives c.args.file c.args.text.now) (ParsingGives c.args.file c.args.text.now) c.in_err-tokens.field-0.0 c.in_err-tokens.ensures.refused)

pub returns-in-Ok-clause-spelled : goal.returns-in-Ok-clause-spelled
returns-in-Ok-clause-spelled c = record {
  tokens = c.in_ok-tokens.tokens.items;
  lexed = c.in_ok-tokens.ensures.tokens;
  parsed = subst (λ tokens. Parses c.args.text.now tokens (Ok (plain_source c.in-Ok.source))) c.deref.ensures.value c.in-Ok.ensures.source;
}

pub returns-clause-refused : goal.returns-clause-refused
returns-clause-refused c =
    stops_behind (LexingGives c.args.file c.args.text.now) (ParsingGives c.args.file c.args.text.now) c.in_ok-tokens.tokens.items c.parsing_stop.result c.in_ok-tokens.ensures.tokens
    (parsing_refused c.args.file c.args.text.now c.in_ok-tokens.tokens.items c.in-Err.fault c.parsing_stop.result
    (λ some. subst (λ tokens. Parses c.args.text.now tokens (Err c.in-Err.fault)) c.deref.ensures.value (c.in-Err.ensures.fault some))
    (subst (λ tokens. IfRejected c.parsing_stop.result (λ r. parsing_reject c.args.file c.args.text.now tokens c.in-Err.fault ≡ Some r)) c.deref-in-Err.ensures.value c.parsing_stop.ensures))
