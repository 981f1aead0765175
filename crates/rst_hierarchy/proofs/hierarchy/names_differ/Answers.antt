use Rattle.std.proofs.Common.{◌≡◌, ◌+◌, true, false, ◌∷◌, Bor}
use Rattle.rst_tree.specs.Modules.{plain_module}
use Rattle.rst_names.specs.Faults.{first}
use Rattle.rst_hierarchy.specs.Hierarchy.{two_modules}
use Rattle.rst_hierarchy.specs.Tables.{plain_modules}
use Rattle.rst_hierarchy.proofs.hierarchy.names_differ.Goals as goal
use Rattle.std.proofs.Common.{sym, ap, subst, ◌∙◌}
use Rattle.rst_tree.specs.declared.module.Module.{Module}
use Rattle.rst_names.specs.declared.faults.ElabCode.TheVariants as code
use Rattle.rst_names.specs.Faults.{Tells, fault_at}
use Rattle.rst_names.proofs.RowLemmas.{refuses_same, refuses_head}
use Rattle.rst_hierarchy.specs.Tables.{is_place, place_named}
use Rattle.rst_name_faults.proofs.BuildLemmas.{seen_at}
use Rattle.rst_hierarchy.proofs.RowsOfModules.{two_left, one_more, twice_named}

pub returns-then-not-is_place-clause-refused : goal.returns-then-not-is_place-clause-refused
returns-then-not-is_place-clause-refused c =
    let ms = plain_modules c.args.modules.now in
    let i = c.loop-place.place in
    let r = c.module-item.result in
    let x = plain_module r.now in
    let is = seen_at (λ (r : Bor Module). plain_module r.now) c.deref-module-items.result.now c.args.modules.now.list.items i r c.deref-module-items.ensures.value c.loop-place-test.true c.module-item.is in
    let other : is_place (place_named ms x.name) i ≡ false = ap (λ o. is_place o i) (sym (c.place.ensures c.requires)) ∙ (sym c.is_place.ensures ∙ c.if-not-is_place.true) in
    refuses_same c.refusal.result (fault_at code.TwoModules x.name 0 ∷ two_left ms (i + 1)) (two_modules ms)
    (ap first (sym (twice_named ms i x is other)) ∙ c.loop-place.invariant)
    (refuses_head c.refusal.result (fault_at code.TwoModules x.name 0) (two_left ms (i + 1))
    (subst (λ t. Tells c.refusal.result (fault_at code.TwoModules t 0)) c.as_slice.ensures c.refusal.ensures))

pub loop-place-preserved : goal.loop-place-preserved
loop-place-preserved c =
    let ms = plain_modules c.args.modules.now in
    let i = c.loop-place.place in
    let r = c.module-item.result in
    let x = plain_module r.now in
    let is = seen_at (λ (r : Bor Module). plain_module r.now) c.deref-module-items.result.now c.args.modules.now.list.items i r c.deref-module-items.ensures.value c.loop-place-test.true c.module-item.is in
    let same : is_place (place_named ms x.name) i ≡ true = ap (λ o. is_place o i) (sym (c.place.ensures c.requires)) ∙ (sym c.is_place.ensures ∙ c.if-not-is_place.false) in
    ap first (sym (one_more ms i x is same)) ∙ c.loop-place.invariant
