use Rattle.std.proofs.Common.{slice_get}
use Rattle.rst_tree.specs.WellFormed.{WellFormed}
use Rattle.rst_hierarchy.specs.Hierarchy.{module_faults}
use Rattle.rst_hierarchy.specs.Tables.{plain_modules, module_of, plain_row}
use Rattle.rst_hierarchy.proofs.hierarchy.row_passes.Goals as goal
use Rattle.std.proofs.Common.{refl, sym, ap, ◌∙◌}
use Rattle.std.proofs.lemmas.Result.{err_from_is_err_and}
use Rattle.rst_name_faults.proofs.BuildLemmas.{seen_at, all_at}
use Rattle.rst_name_faults.proofs.UseLemmas.{few_items}
use Rattle.rst_hierarchy.proofs.RowsOfModules.{where_refuses, where_goes_on, where_left_out}
use Rattle.rst_hierarchy.proofs.hierarchy.row_passes.Goals.{then-is_marked+in_ok-module_passes, else-is_marked}

pub module_passes-requires-clause-few : goal.module_passes-requires-clause-few
module_passes-requires-clause-few c =
    let f = c.index-all-place.result in
    let is = ap (λ l. slice_get l c.loop-place.place) (sym c.requires.facts.of) ∙ seen_at module_of c.args.all.now c.args.all.now c.loop-place.place f refl c.loop-place-test.true c.index-all-place.is in
    few_items (module_of f) (all_at WellFormed (plain_modules c.args.modules.now) c.loop-place.place (module_of f) c.requires.formed is)

pub returns-in_err-module_passes-clause-refused : goal.returns-in_err-module_passes-clause-refused
returns-in_err-module_passes-clause-refused c =
    let ms = plain_modules c.args.modules.now in
    let f = c.index-all-place.result in
    let is = ap (λ l. slice_get l c.loop-place.place) (sym c.requires.facts.of) ∙ seen_at module_of c.args.all.now c.args.all.now c.loop-place.place f refl c.loop-place-test.true c.index-all-place.is in
    let e = c.in_err-module_passes.field-0.0 in
    let p = err_from_is_err_and c.from_residual.result c.from_residual.ensures.1 in
    rw (p.1, p.2) (λ test are.
    where_refuses test (module_faults ms (plain_row c.args.row)) ms c.loop-place.place (module_of f) is c.args.used.now are e (sym c.is_marked.ensures ∙ c.if-is_marked.true) (c.loop-place.invariant test are)
    c.in_err-module_passes.ensures.refused)

pub loop-place-preserved : goal.loop-place-preserved
loop-place-preserved c = λ test are.
    let ms = plain_modules c.args.modules.now in
    let f = c.index-all-place.result in
    let is = ap (λ l. slice_get l c.loop-place.place) (sym c.requires.facts.of) ∙ seen_at module_of c.args.all.now c.args.all.now c.loop-place.place f refl c.loop-place-test.true c.index-all-place.is in
    let row = module_faults ms (plain_row c.args.row) in
    elim c.if-is_marked.branch [
      | then-is_marked+in_ok-module_passes w ↦
          where_goes_on test row ms c.loop-place.place (module_of f) is c.args.used.now are (sym c.is_marked.ensures ∙ w.if-is_marked.true) (c.loop-place.invariant test are) w.in_ok-module_passes.ensures.passes
      | else-is_marked w ↦
          where_left_out test row ms c.loop-place.place (module_of f) is c.args.used.now are (sym c.is_marked.ensures ∙ w.if-is_marked.false) (c.loop-place.invariant test are)
    ]
