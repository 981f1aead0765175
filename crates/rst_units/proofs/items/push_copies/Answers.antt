use Rattle.std.proofs.Common.{◌++◌, map}
use Rattle.std.proofs.lemmas.Result.{err_from_is_err_and}
use Rattle.rst_tree.specs.Modules.{PlainCopied, plain_copied}
use Rattle.rst_width.specs.Scopes.{names_of}
use Rattle.rst_net.specs.Units.{plain_driver}
use Rattle.rst_names.proofs.Turns.{read}
use Rattle.rst_items.specs.Items.{link_units, over_links, over_copies}
use Rattle.rst_items.specs.ItemRows.{link_faults}
use Rattle.rst_items.specs.Tables.{placed_in}
use Rattle.rst_items.proofs.Rounds.{faults_stop, made_further, faults_further}
use Rattle.rst_units.proofs.items.push_copies.Goals as goal

pub returns-in_err-push_copy-clause-refused : goal.returns-in_err-push_copy-clause-refused
returns-in_err-push_copy-clause-refused c =
    let xs = c.args.copies.now in
    let i = c.loop-copy.copy-index in
    let x = c.copy-item.result in
    let p = err_from_is_err_and c.from_residual.result c.from_residual.ensures.1 in
    rw (p.1, p.2) (faults_stop plain_copied xs i x
    (read xs i x c.loop-copy-test.true c.copy-item.is)
    (λ (k : PlainCopied). over_links (link_faults (names_of c.args.located.now.names)) k (placed_in c.args.whole.now c.args.located.now k))
    c.in_err-push_copy.field-0.0 c.loop-copy.invariant.left c.in_err-push_copy.ensures.refused)

pub loop-copy-preserved : goal.loop-copy-preserved
loop-copy-preserved c =
    let xs = c.args.copies.now in
    let i = c.loop-copy.copy-index in
    let x = c.copy-item.result in
    let is = read xs i x c.loop-copy-test.true c.copy-item.is in
    record {
      made = made_further plain_copied xs i x is (λ (k : PlainCopied). over_links (link_units (names_of c.args.located.now.names)) k (placed_in c.args.whole.now c.args.located.now k))
          (map plain_driver c.loop-copy.units.items) (map plain_driver c.push_copy.new.units.items)
          (map plain_driver c.args.units.now.items ++ over_copies (link_units (names_of c.args.located.now.names)) (placed_in c.args.whole.now c.args.located.now) (map plain_copied xs))
          c.loop-copy.invariant.made c.in_ok-push_copy.ensures.exact;
      left = faults_further plain_copied xs i x is (λ (k : PlainCopied). over_links (link_faults (names_of c.args.located.now.names)) k (placed_in c.args.whole.now c.args.located.now k))
          (over_copies (link_faults (names_of c.args.located.now.names)) (placed_in c.args.whole.now c.args.located.now) (map plain_copied xs))
          c.loop-copy.invariant.left c.in_ok-push_copy.ensures.passes;
    }
