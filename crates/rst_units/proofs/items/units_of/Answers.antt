use Rattle.std.proofs.Common.{List, ◌++◌, map, sym, ap, subst, ◌∙◌}
use Rattle.std.proofs.lemmas.Result.{err_from_is_err_and}
use Rattle.std.specs.List.{flat_map}
use Rattle.rst_net.specs.declared.unit.Driver.{Driver}
use Rattle.rst_net.specs.declared.unit.Process.{Process}
use Rattle.rst_net.specs.Units.{plain_driver, plain_process}
use Rattle.rst_names.specs.Faults.{Fault, first, Refuses}
use Rattle.rst_items.specs.Items.{unit_row, clocked_row}
use Rattle.rst_items.specs.ItemRows.{fault_row}
use Rattle.rst_items.specs.Tables.{at_place}
use Rattle.rst_items.proofs.SeenLemmas.{rows-are}
use Rattle.rst_units.proofs.items.units_of.Goals as goal

pub returns-in_err-push_places-clause-refused : goal.returns-in_err-push_places-clause-refused
returns-in_err-push_places-clause-refused c = λ modules is.
    let p = err_from_is_err_and c.from_residual.result c.from_residual.ensures.1 in
    rw (p.1, p.2) (subst (λ (l : List Fault). Refuses c.in_err-push_places.field-0.0 l) (rows-are modules c.args.whole.now is fault_row) c.in_err-push_places.ensures.refused)

pub returns-clause-units : goal.returns-clause-units
returns-clause-units c = λ modules is.
    c.in_ok-push_places.ensures.units ∙ ap (λ (ds : List Driver). map plain_driver ds ++ flat_map (at_place unit_row c.args.whole.now) c.args.whole.now.all.now) c.new.ensures.items
    ∙ rows-are modules c.args.whole.now is unit_row

pub returns-clause-clocked : goal.returns-clause-clocked
returns-clause-clocked c = λ modules is.
    c.in_ok-push_places.ensures.clocked ∙ ap (λ (ps : List Process). map plain_process ps ++ flat_map (at_place clocked_row c.args.whole.now) c.args.whole.now.all.now) c.new-2.ensures.items
    ∙ rows-are modules c.args.whole.now is clocked_row

pub returns-clause-passes : goal.returns-clause-passes
returns-clause-passes c = λ modules is. sym (ap first (rows-are modules c.args.whole.now is fault_row)) ∙ c.in_ok-push_places.ensures.passes
