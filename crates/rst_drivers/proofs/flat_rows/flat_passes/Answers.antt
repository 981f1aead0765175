use Rattle.std.proofs.Common.{◌≡◌, None, IfErr, OnOk, List, Bool, false, length, replicate, refl, sym, subst}
use Rattle.rst_net.specs.Units.{plain_flat}
use Rattle.rst_names.specs.Faults.{Fault, Refuses, first}
use Rattle.rst_drivers.specs.FlatRows.{is_needed}
use Rattle.rst_drivers.specs.Marks.{Marks}
use Rattle.rst_drivers.proofs.RowLemmas.{faults-are}
use Rattle.rst_drivers.proofs.flat_rows.flat_passes.Goals as goal

pub returns-clause-passes : goal.returns-clause-passes
returns-clause-passes c = λ counted.
    let needed : Marks (is_needed (plain_flat c.args.flat.now)) (replicate (length c.args.flat.now.signals.items) false) c.deref.result.now =
    subst (λ (m : List Bool). Marks (is_needed (plain_flat c.args.flat.now)) (replicate (length c.args.flat.now.signals.items) false) m) (sym c.deref.ensures.value) c.in_ok-needed.ensures in
    subst (λ (l : List Fault). OnOk c.rows_pass.result (first l ≡ None))
    (faults-are (plain_flat c.args.flat.now) c.args.flat.now.signals.items c.deref.result.now c.args.drives.now refl needed counted) c.rows_pass.ensures.passes

pub returns-clause-refused : goal.returns-clause-refused
returns-clause-refused c = λ counted.
    let needed : Marks (is_needed (plain_flat c.args.flat.now)) (replicate (length c.args.flat.now.signals.items) false) c.deref.result.now =
    subst (λ (m : List Bool). Marks (is_needed (plain_flat c.args.flat.now)) (replicate (length c.args.flat.now.signals.items) false) m) (sym c.deref.ensures.value) c.in_ok-needed.ensures in
    subst (λ (l : List Fault). IfErr c.rows_pass.result (λ e. Refuses e l))
    (faults-are (plain_flat c.args.flat.now) c.args.flat.now.signals.items c.deref.result.now c.args.drives.now refl needed counted) c.rows_pass.ensures.refused
