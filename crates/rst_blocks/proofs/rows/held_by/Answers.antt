use Rattle.std.proofs.Common.{◌≡◌, ◌∙◌, sym, ap, false, List, ◌++◌}
use Rattle.rst_net.specs.declared.signal.Slice.{Slice}
use Rattle.rst_net.specs.Statements.{plain_stmt}
use Rattle.rst_cycle.specs.Drivers.{target_has}
use Rattle.rst_blocks.specs.Plain.{has}
use Rattle.rst_blocks.specs.Sets.{targets_in}
use Rattle.rst_blocks.specs.Blocks.{names}
use Rattle.rst_blocks.proofs.Targets.{targets_in-sets}
use Rattle.rst_blocks.proofs.Unknowns.{right_false, names-none, unset-unheld}
use Rattle.rst_blocks.proofs.rows.held_by.Goals as goal

pub loop-signal-init : goal.loop-signal-init
loop-signal-init c i free place below =
    let body = plain_stmt c.args.body.now in
    let slices : c.deref.result.now ≡ targets_in body = c.deref.ensures.value ∙ c.in_ok-set_in.ensures ∙ ap (λ (xs : List Slice). xs ++ targets_in body) c.new-targets.ensures.items in
    let unnamed : names c.deref.result.now i ≡ false = right_false (has c.new-signals.result i) (names c.deref.result.now i) (sym (c.in_ok-put_signals.ensures i) ∙ free) in
    unset-unheld body i place
    (sym (targets_in-sets body i place) ∙ ap (λ (xs : List Slice). target_has xs i place) (sym slices) ∙ names-none c.deref.result.now i place unnamed)
