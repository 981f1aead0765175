use Rattle.std.proofs.Common.{◌≡◌, List, None, subst}
use Rattle.std.specs.Prelude.{OnOk, IfErr}
use Rattle.rst_names.specs.Faults.{Fault, first, Refuses}
use Rattle.rst_items.specs.ItemRows.{width_row}
use Rattle.rst_items.proofs.SeenLemmas.{rows-are}
use Rattle.rst_item_faults.proofs.widths.widths_pass.Goals as goal

pub returns-clause-passes : goal.returns-clause-passes
returns-clause-passes c = λ modules is.
    subst (λ (l : List Fault). OnOk c.places_pass.result (first l ≡ None)) (rows-are modules c.args.whole.now is width_row) c.places_pass.ensures.passes

pub returns-clause-refused : goal.returns-clause-refused
returns-clause-refused c = λ modules is.
    subst (λ (l : List Fault). IfErr c.places_pass.result (λ e. Refuses e l)) (rows-are modules c.args.whole.now is width_row) c.places_pass.ensures.refused
