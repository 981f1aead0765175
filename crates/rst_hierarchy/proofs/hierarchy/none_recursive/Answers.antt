use Rattle.std.proofs.Common.{◌≡◌, [], None, true, false, ◌∷◌, Bor}
use Rattle.rst_tree.specs.Modules.{plain_module}
use Rattle.rst_names.specs.Faults.{Refuses, first}
use Rattle.rst_hierarchy.specs.Hierarchy.{recursive, reaches}
use Rattle.rst_hierarchy.specs.Tables.{plain_modules}
use Rattle.rst_hierarchy.proofs.hierarchy.none_recursive.Goals as goal
use Rattle.std.proofs.Common.{sym, ap, subst, ◌∙◌}
use Rattle.std.proofs.Common.{cond}
use Rattle.rst_tree.specs.declared.module.Module.{Module}
use Rattle.rst_names.specs.declared.faults.ElabCode.TheVariants as code
use Rattle.rst_names.specs.Faults.{Tells, fault_at}
use Rattle.rst_names.proofs.RowLemmas.{refuses_head}
use Rattle.rst_hierarchy.specs.Tables.{mark_in}
use Rattle.rst_name_faults.proofs.BuildLemmas.{seen_at}
use Rattle.rst_hierarchy.proofs.ReachLemmas.{mark_of}
use Rattle.rst_hierarchy.proofs.RowsOfModules.{where_refuses, where_goes_on, where_left_out}
use Rattle.rst_hierarchy.proofs.hierarchy.none_recursive.Goals.{else-is_marked-via-then-is_marked+else-is_marked_in, else-is_marked-via-else-is_marked}

pub returns-then-is_marked_in-clause-refused : goal.returns-then-is_marked_in-clause-refused
returns-then-is_marked_in-clause-refused c = λ test are.
    let ms = plain_modules c.args.modules.now in
    let i = c.loop-place.place in
    let x = plain_module c.module-item.result.now in
    let is = seen_at (λ (r : Bor Module). plain_module r.now) c.deref-module-items.result.now c.args.modules.now.list.items c.loop-place.place c.module-item.result c.deref-module-items.ensures.value c.loop-place-test.true c.module-item.is in
    let e = c.refusal.result in
    let fault = fault_at code.Recursive x.name 0 in
    let yes : reaches ms x x.name ≡ true = sym (mark_of ms (reaches ms) i i x x is is) ∙ (ap (λ rows. mark_in rows i i) (sym c.requires) ∙ (sym c.is_marked_in.ensures ∙ c.if-is_marked_in.true)) in
    let tells = subst (λ t. Tells e (fault_at code.Recursive t 0)) c.as_slice.ensures c.refusal.ensures in
    where_refuses test (recursive ms) ms i x is c.args.used.now are e (sym c.is_marked.ensures ∙ c.if-is_marked.true) (c.loop-place.invariant test are)
    (subst (λ b. Refuses e (cond b (fault ∷ []) [])) (sym yes) (refuses_head e fault [] tells))

pub loop-place-preserved : goal.loop-place-preserved
loop-place-preserved c = λ test are.
    let ms = plain_modules c.args.modules.now in
    let i = c.loop-place.place in
    let x = plain_module c.module-item.result.now in
    let is = seen_at (λ (r : Bor Module). plain_module r.now) c.deref-module-items.result.now c.args.modules.now.list.items c.loop-place.place c.module-item.result c.deref-module-items.ensures.value c.loop-place-test.true c.module-item.is in
    let fault = fault_at code.Recursive x.name 0 in
    elim c.else-is_marked.branch [
      | else-is_marked-via-then-is_marked+else-is_marked_in w ↦
          let no : reaches ms x x.name ≡ false = sym (mark_of ms (reaches ms) i i x x is is) ∙ (ap (λ rows. mark_in rows i i) (sym c.requires) ∙ (sym w.is_marked_in.ensures ∙ w.if-is_marked_in.false)) in
          let none : first (recursive ms x) ≡ None = ap (λ b. first (cond b (fault ∷ []) [])) no in
          where_goes_on test (recursive ms) ms i x is c.args.used.now are (sym c.is_marked.ensures ∙ w.if-is_marked.true) (c.loop-place.invariant test are) none
      | else-is_marked-via-else-is_marked w ↦
          where_left_out test (recursive ms) ms i x is c.args.used.now are (sym c.is_marked.ensures ∙ w.if-is_marked.false) (c.loop-place.invariant test are)
    ]
