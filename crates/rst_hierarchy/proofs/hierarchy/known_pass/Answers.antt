use Rattle.std.proofs.Common.{◌≡◌, map, None, Bor}
use Rattle.std.specs.List.{flat_map}
use Rattle.rst_tree.specs.Modules.{plain_item, plain_module}
use Rattle.rst_names.specs.Faults.{Refuses, first}
use Rattle.rst_hierarchy.specs.Hierarchy.{unknown_in, no_modules}
use Rattle.rst_hierarchy.specs.Tables.{plain_modules}
use Rattle.rst_hierarchy.proofs.hierarchy.known_pass.Goals as goal
use Rattle.std.proofs.Common.{sym, subst, ◌∙◌}
use Rattle.std.proofs.lemmas.Result.{err_from_is_err_and}
use Rattle.rst_tree.specs.declared.module.Module.{Module}
use Rattle.rst_name_faults.proofs.BuildLemmas.{seen_at}
use Rattle.rst_hierarchy.proofs.RowsOfModules.{where_refuses, where_goes_on, where_left_out}
use Rattle.rst_hierarchy.proofs.hierarchy.known_pass.Goals.{then-is_marked+in_ok-placed_modules_pass, else-is_marked}

pub returns-in_err-placed_modules_pass-clause-refused : goal.returns-in_err-placed_modules_pass-clause-refused
returns-in_err-placed_modules_pass-clause-refused c =
    let ms = plain_modules c.args.modules.now in
    let is = seen_at (λ (r : Bor Module). plain_module r.now) c.deref-module-items.result.now c.args.modules.now.list.items c.loop-place.place c.module-item.result c.deref-module-items.ensures.value c.loop-place-test.true c.module-item.is in
    let e = c.in_err-placed_modules_pass.field-0.0 in
    let told : Refuses e (no_modules ms (plain_module c.module-item.result.now)) = subst (λ l. Refuses e (flat_map (unknown_in ms) (map plain_item l))) c.deref.ensures.value c.in_err-placed_modules_pass.ensures.refused in
    let p = err_from_is_err_and c.from_residual.result c.from_residual.ensures.1 in
    rw (p.1, p.2) (λ test are.
    where_refuses test (no_modules ms) ms c.loop-place.place (plain_module c.module-item.result.now) is c.args.used.now are e (sym c.is_marked.ensures ∙ c.if-is_marked.true) (c.loop-place.invariant test are) told)

pub loop-place-preserved : goal.loop-place-preserved
loop-place-preserved c = λ test are.
    let ms = plain_modules c.args.modules.now in
    let x = plain_module c.module-item.result.now in
    let is = seen_at (λ (r : Bor Module). plain_module r.now) c.deref-module-items.result.now c.args.modules.now.list.items c.loop-place.place c.module-item.result c.deref-module-items.ensures.value c.loop-place-test.true c.module-item.is in
    elim c.if-is_marked.branch [
      | then-is_marked+in_ok-placed_modules_pass w ↦
          let none : first (no_modules ms x) ≡ None = subst (λ l. first (flat_map (unknown_in ms) (map plain_item l)) ≡ None) w.deref.ensures.value w.in_ok-placed_modules_pass.ensures.passes in
          where_goes_on test (no_modules ms) ms c.loop-place.place x is c.args.used.now are (sym c.is_marked.ensures ∙ w.if-is_marked.true) (c.loop-place.invariant test are) none
      | else-is_marked w ↦
          where_left_out test (no_modules ms) ms c.loop-place.place x is c.args.used.now are (sym c.is_marked.ensures ∙ w.if-is_marked.false) (c.loop-place.invariant test are)
    ]
