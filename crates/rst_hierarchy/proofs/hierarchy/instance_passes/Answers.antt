use Rattle.std.proofs.Common.{◌≡◌, true, false, List, slice_get, is_some, not, sym, ap, subst, ◌∙◌}
use Rattle.rst_tree.specs.declared.module.Copied.{Copied}
use Rattle.rst_tree.specs.Modules.{plain_copied, plain_instance}
use Rattle.rst_names.specs.declared.faults.ElabCode.TheVariants as code
use Rattle.rst_names.specs.Faults.{Tells, fault_at}
use Rattle.rst_hierarchy.specs.Tables.{plain_modules}
use Rattle.rst_hierarchy.proofs.RowsOfModules.{copied_some, no_copies, some_copies, unknown_refused, known_passes, none_passes}
use Rattle.rst_hierarchy.proofs.hierarchy.instance_passes.Goals as goal

pub returns-then-is_none-clause-passes : goal.returns-then-is_none-clause-passes
returns-then-is_none-clause-passes c =
    let copies = c.args.instance.now.copies.items in
    let none : is_some (slice_get copies 0) ≡ false = ap is_some (sym (c.first.ensures.value ∙ ap (λ (l : List Copied). slice_get l 0) c.deref.ensures.value)) ∙ (copied_some c.first.result ∙ (c.is_none.ensures ∙ ap not c.if-is_none.true)) in
    none_passes (plain_modules c.args.modules.now) (plain_instance c.args.instance.now) (no_copies plain_copied copies none)

pub returns-in-Some-clause-passes : goal.returns-in-Some-clause-passes
returns-in-Some-clause-passes c =
    known_passes (plain_modules c.args.modules.now) (plain_instance c.args.instance.now) c.in-Some.field-0 (sym (c.place.ensures c.requires) ∙ c.in-Some.is)

pub returns-in-None-clause-refused : goal.returns-in-None-clause-refused
returns-in-None-clause-refused c =
    let copies = c.args.instance.now.copies.items in
    let i = plain_instance c.args.instance.now in
    let some : is_some (slice_get copies 0) ≡ true = ap is_some (sym (c.first.ensures.value ∙ ap (λ (l : List Copied). slice_get l 0) c.deref.ensures.value)) ∙ (copied_some c.first.result ∙ (c.is_none.ensures ∙ ap not c.if-is_none.false)) in
    unknown_refused (plain_modules c.args.modules.now) i c.refusal.result (sym (c.place.ensures c.requires) ∙ c.in-None.is) (some_copies plain_copied copies some)
    (subst (λ t. Tells c.refusal.result (fault_at code.NoModule t 0)) c.as_slice.ensures c.refusal.ensures)
