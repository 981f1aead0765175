use Rattle.std.proofs.Common.{◌≡◌, List, None, OnOk, IfErr, subst}
use Rattle.rst_names.specs.Faults.{Fault, Refuses, first}
use Rattle.rst_items.proofs.SeenLemmas.{rows-are}
use Rattle.rst_elab.specs.ClockRows.{clock_row}
use Rattle.rst_elab.proofs.clocks.clocks_pass.Goals as goal

pub returns-clause-passes : goal.returns-clause-passes
returns-clause-passes c =
    λ modules is. subst (λ (fs : List Fault). OnOk c.places_pass.result (first fs ≡ None)) (rows-are modules c.args.whole.now is clock_row) c.places_pass.ensures.passes

pub returns-clause-refused : goal.returns-clause-refused
returns-clause-refused c =
    λ modules is. subst (λ (fs : List Fault). IfErr c.places_pass.result (λ e. Refuses e fs)) (rows-are modules c.args.whole.now is clock_row) c.places_pass.ensures.refused
