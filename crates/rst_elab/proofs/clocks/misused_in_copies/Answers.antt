use Rattle.std.proofs.Common.{sym, ap, ◌∙◌, arith}
use Rattle.std.specs.Option.{option_copied}
use Rattle.rst_tree.specs.Modules.{PlainCopied, plain_copied}
use Rattle.rst_names.proofs.Turns.{read}
use Rattle.rst_items.specs.Items.{over_links}
use Rattle.rst_items.specs.Tables.{placed_in}
use Rattle.rst_elab.specs.ClockRows.{misused_in_link}
use Rattle.rst_elab.specs.Tables.{test_of}
use Rattle.rst_elab.proofs.FirstNames.{first_found, first_later}
use Rattle.rst_elab.proofs.clocks.misused_in_copies.Goals as goal

pub returns-in-Some : goal.returns-in-Some
returns-in-Some c =
    let row = λ (k : PlainCopied). over_links (misused_in_link (test_of c.args.test.now)) k (placed_in c.args.whole.now c.args.located.now k) in
    first_found plain_copied row c.args.copies.now c.loop-copy.copy-index c.copy-item.result
    (read c.args.copies.now c.loop-copy.copy-index c.copy-item.result (omega arith) c.copy-item.is) c.in-Some.name.now c.loop-copy.invariant
    (sym (ap option_copied c.in-Some.is) ∙ c.in_ok-name.ensures)

pub loop-copy-preserved : goal.loop-copy-preserved
loop-copy-preserved c =
    let row = λ (k : PlainCopied). over_links (misused_in_link (test_of c.args.test.now)) k (placed_in c.args.whole.now c.args.located.now k) in
    first_later plain_copied row c.args.copies.now c.loop-copy.copy-index c.copy-item.result
    (read c.args.copies.now c.loop-copy.copy-index c.copy-item.result (omega arith) c.copy-item.is) c.loop-copy.invariant
    (sym (ap option_copied c.in_default.is) ∙ c.in_ok-name.ensures)
