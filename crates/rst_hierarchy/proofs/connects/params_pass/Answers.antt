use Rattle.std.proofs.Common.{◌+◌, ◌++◌, map, drop, sym, ap, ◌∙◌}
use Rattle.std.specs.List.{flat_map}
use Rattle.std.proofs.lemmas.Result.{err_from_is_err_and}
use Rattle.rst_tree.specs.Modules.{plain_item}
use Rattle.rst_names.specs.Faults.{first}
use Rattle.rst_names.proofs.Turns.{at, read}
use Rattle.rst_names.proofs.RowLemmas.{refuses_same, refuses_front}
use Rattle.rst_hierarchy.specs.Hierarchy.{no_parameters_in}
use Rattle.rst_hierarchy.specs.Tables.{plain_modules}
use Rattle.rst_hierarchy.proofs.connects.params_pass.Goals as goal

pub returns-in_err-params_of_item-clause-refused : goal.returns-in_err-params_of_item-clause-refused
returns-in_err-params_of_item-clause-refused c =
    let row = no_parameters_in (plain_modules c.args.modules.now) in
    let items = c.args.items.now in
    let i = c.loop-item.item-index in
    let item = c.item-item.result in
    let e = c.in_err-params_of_item.field-0.0 in
    let rest = flat_map row (map plain_item (drop (i + 1) items)) in
    let is = read items i item c.loop-item-test.true c.item-item.is in
    let p = err_from_is_err_and c.from_residual.result c.from_residual.ensures.1 in
    rw (p.1, p.2)
    (refuses_same e (row (plain_item item) ++ rest) (flat_map row (map plain_item items))
    (ap (λ l. first (flat_map row (map plain_item l))) (sym (at items i item is).back) ∙ c.loop-item.invariant)
    (refuses_front e (row (plain_item item)) rest c.in_err-params_of_item.ensures.refused))
