use Rattle.std.specs.Option.{option_map}
use Rattle.std.proofs.lemmas.Result.{err_from_is_err_and}
use Rattle.rst_tree.specs.Statements.{plain_stmt}
use Rattle.rst_width.specs.Scopes.{names_of}
use Rattle.rst_items.specs.Tables.{plain_form}
use Rattle.rst_units.proofs.Bodies.{clocked_passes, clocked_refuses}
use Rattle.rst_units.proofs.blocks.clocked_at.Goals as goal

pub returns-in_err-typed_stmt-clause-refused : goal.returns-in_err-typed_stmt-clause-refused
returns-in_err-typed_stmt-clause-refused c =
    let p = err_from_is_err_and c.from_residual.result c.from_residual.ensures.1 in
    rw (p.1, p.2) (clocked_refuses (names_of c.args.site.located.now.names) (option_map plain_form c.args.form) (plain_stmt c.args.body.now)
    (plain_stmt c.clocked_body.result.now) c.in_err-typed_stmt.field-0.0 c.clocked_body.ensures c.in_err-typed_stmt.ensures.refused)

pub returns-clause-passes : goal.returns-clause-passes
returns-clause-passes c =
    clocked_passes (names_of c.args.site.located.now.names) (option_map plain_form c.args.form) (plain_stmt c.args.body.now)
    (plain_stmt c.clocked_body.result.now) c.clocked_body.ensures c.in_ok-typed_stmt.ensures.passes
