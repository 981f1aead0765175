use Rattle.std.proofs.Common.{sym, ◌∙◌, subst}
use Rattle.std.specs.Fmt.{decimal}
use Rattle.std.specs.Str.{IsUtf8}
use Rattle.std.proofs.lemmas.Fmt.{IsAscii-decimal, parse-decimal}
use Rattle.std.proofs.lemmas.Str.{IsUtf8-from_ascii}
use Rattle.rst_cert_lines.proofs.cursor.likely_number.Goals as goal

pub returns-in-Err : goal.returns-in-Err
returns-in-Err c = λ number small is.
    absurd (c.in-Err.ensures.cases.0 (subst IsUtf8 is (IsUtf8-from_ascii (decimal number) (IsAscii-decimal number small))))

pub returns-in-Err-parse : goal.returns-in-Err-parse
returns-in-Err-parse c = λ number small is.
    let read = parse-decimal 64 number c.in-Ok.text.now c.parse.result small small (c.in-Ok.ensures.cases.0 ∙ sym is) c.parse.ensures.value.0 in
    let same = sym c.in-Err-parse.is ∙ read in
    cc

pub returns-in-Ok-parse : goal.returns-in-Ok-parse
returns-in-Ok-parse c = λ number small is.
    let read = parse-decimal 64 number c.in-Ok.text.now c.parse.result small small (c.in-Ok.ensures.cases.0 ∙ sym is) c.parse.ensures.value.0 in
    let same = sym c.in-Ok-parse.is ∙ read in
    cc
