use Rattle.std.proofs.Common.{◌≡◌, ◌<◌, length, ap, arith}
use Rattle.std.specs.Prelude.{Some}
use Rattle.std.proofs.lemmas.Grind.{common_steps}
use Rattle.std.proofs.lemmas.List.{nil_from_length}
use Rattle.std.proofs.lemmas.Result.{err_from_is_err_and}
use Rattle.rst_tree.specs.Statements.{plain_stmt}
use Rattle.rst_grammar.proofs.SoundStatements.{whole_statement_sound, whole_statement_only}
use Rattle.rst_statement.proofs.Laws.{no_statement}
use Rattle.rst_statement.proofs.statements.statement.Goals as goal

pub returns-in_err-found-clause-only : goal.returns-in_err-found-clause-only
returns-in_err-found-clause-only c = λ s spelled small.
    let p = err_from_is_err_and c.from_residual.result c.from_residual.ensures.1 in
    rw (p.1, p.2) (no_statement c.in_err-found.field-0.0 c.args.symbols.now s 200 c.in_err-found.ensures.reads spelled small)

pub returns-then-not-is_empty-clause-only : goal.returns-then-not-is_empty-clause-only
returns-then-not-is_empty-clause-only c = λ s spelled small.
    let only = whole_statement_only c.args.symbols.now c.in_ok-found.rest.now s (plain_stmt c.in_ok-found.found.stmt) 200 c.in_ok-found.ensures.reads spelled small in
    let none = ap length only.1 in
    let some : 0 < length c.in_ok-found.rest.now = grind (arith, common_steps) in
    absurd (omega arith)

pub returns-clause-found : goal.returns-clause-found
returns-clause-found c =
    let none : length c.in_ok-found.rest.now ≡ 0 = grind (arith, common_steps) in
    whole_statement_sound 200 c.args.symbols.now c.in_ok-found.rest.now (plain_stmt c.in_ok-found.found.stmt) c.in_ok-found.ensures.reads (nil_from_length c.in_ok-found.rest.now none)

pub returns-clause-only : goal.returns-clause-only
returns-clause-only c = λ s spelled small.
    ap Some (whole_statement_only c.args.symbols.now c.in_ok-found.rest.now s (plain_stmt c.in_ok-found.found.stmt) 200 c.in_ok-found.ensures.reads spelled small).0
