use Rattle.std.proofs.Common.{◌∙◌, ◌≡◌, ℕ, List, ◌++◌, sym, ap, subst}
use Rattle.std.specs.List.{AllByRecursion}
use Rattle.rst_net.specs.declared.signal.Slice.{Slice}
use Rattle.rst_net.specs.Statements.{plain_stmt}
use Rattle.rst_cycle.specs.Bits.{has_bit}
use Rattle.rst_cycle.specs.Drivers.{target_has, sets}
use Rattle.rst_cycle.specs.Resets.{forced}
use Rattle.rst_blocks.specs.Sets.{targets_in}
use Rattle.rst_blocks.proofs.Targets.{targets_in-sets}
use Rattle.rst_lower.specs.WireWords.{widths_of}
use Rattle.rst_statement_values.specs.Fits.{SliceInside}
use Rattle.rst_reset_gates.specs.Tables.{value_at, Gives}
use Rattle.rst_reset_gates.proofs.Branches.{targets_inside}
use Rattle.rst_reset_gates.proofs.Registers.{on_ok}
use Rattle.rst_reset_gates.proofs.TableLemmas.{branch_gives}
use Rattle.rst_reset_gates.proofs.branch.put_branch.Goals as goal

pub put_slices-requires-clause-inside : goal.put_slices-requires-clause-inside
put_slices-requires-clause-inside c =
    let st = plain_stmt c.args.branch.now in
    let slices : c.deref.result.now ≡ targets_in st = c.deref.ensures.value ∙ (c.in_ok-set_in.ensures ∙ ap (λ (xs : List Slice). xs ++ targets_in st) c.new-slices.ensures.items) in
    let wide : widths_of c.force.new.wires ≡ widths_of c.args.blank.now = λ j i. c.in_ok-force.ensures.widths i j in
    subst (λ (f : ℕ → ℕ). AllByRecursion (SliceInside f) c.deref.result.now) (sym wide)
    (subst (AllByRecursion (SliceInside (widths_of c.args.blank.now))) (sym slices) (targets_inside (widths_of c.args.blank.now) _ st c.requires.fit))

pub clear-requires-clause-inside : goal.clear-requires-clause-inside
clear-requires-clause-inside c =
    let st = plain_stmt c.args.branch.now in
    let slices : c.deref-2.result.now ≡ targets_in st = c.deref-2.ensures.value ∙ (c.in_ok-set_in.ensures ∙ ap (λ (xs : List Slice). xs ++ targets_in st) c.new-slices.ensures.items) in
    subst (AllByRecursion (SliceInside (widths_of c.args.blank.now))) (sym slices) (targets_inside (widths_of c.args.blank.now) _ st c.requires.fit)

pub clear-requires-clause-kept : goal.clear-requires-clause-kept
clear-requires-clause-kept c =
    let st = plain_stmt c.args.branch.now in
    let slices : c.deref-2.result.now ≡ targets_in st = c.deref-2.ensures.value ∙ (c.in_ok-set_in.ensures ∙ ap (λ (xs : List Slice). xs ++ targets_in st) c.new-slices.ensures.items) in
    λ i none. c.in_ok-force.ensures.kept i (λ place. sym (targets_in-sets st i place) ∙ (ap (λ (xs : List Slice). target_has xs i place) (sym slices) ∙ none place))

pub returns-clause-gives : goal.returns-clause-gives
returns-clause-gives c =
    let st = plain_stmt c.args.branch.now in
    let slices : c.deref.result.now ≡ targets_in st = c.deref.ensures.value ∙ (c.in_ok-set_in.ensures ∙ ap (λ (xs : List Slice). xs ++ targets_in st) c.new-slices.ensures.items) in
    on_ok (Gives c.args.reset (sets st) (λ i place. has_bit (forced st i) place) c.args.table.now c.put_slices.new.table) c.clear.result
    (branch_gives c.args.reset st c.args.blank.now c.force.new.wires c.args.table.now c.put_slices.new.table c.requires.rows c.in_ok-force.ensures
    (subst (λ (xs : List Slice). Gives c.args.reset (target_has xs) (value_at c.force.new.wires) c.args.table.now c.put_slices.new.table) slices c.put_slices.ensures))
