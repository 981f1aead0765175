use Rattle.std.proofs.lemmas.Result.{err_from_is_err_and}
use Rattle.rst_tree.specs.Modules.{PlainCopied, plain_copied}
use Rattle.rst_width.specs.Scopes.{names_of}
use Rattle.rst_names.proofs.Turns.{read}
use Rattle.rst_items.specs.Items.{over_links}
use Rattle.rst_items.specs.ItemRows.{link_width}
use Rattle.rst_items.specs.Tables.{placed_in}
use Rattle.rst_items.proofs.Rounds.{row_stops}
use Rattle.rst_item_faults.proofs.widths.copies_pass.Goals as goal

pub returns-in_err-copy_passes-clause-refused : goal.returns-in_err-copy_passes-clause-refused
returns-in_err-copy_passes-clause-refused c =
    let xs = c.args.copies.now in
    let i = c.loop-copy.copy-index in
    let x = c.copy-item.result in
    let p = err_from_is_err_and c.from_residual.result c.from_residual.ensures.1 in
    rw (p.1, p.2) (row_stops plain_copied xs i x
    (read xs i x c.loop-copy-test.true c.copy-item.is)
    (λ (k : PlainCopied). over_links (link_width (names_of c.args.located.now.names)) k (placed_in c.args.whole.now c.args.located.now k))
    c.in_err-copy_passes.field-0.0 c.loop-copy.invariant c.in_err-copy_passes.ensures.refused)
