use Rattle.std.proofs.Common.{List, length, map, sym, ap, subst, ◌∙◌}
use Rattle.std.proofs.lemmas.Result.{err_from_is_err_and}
use Rattle.rst_net.specs.Units.{PlainFlat, plain_driver, plain_process, plain_signal}
use Rattle.rst_names.specs.Faults.{Refuses, first}
use Rattle.rst_names.specs.Tables.{plain_declared}
use Rattle.rst_drivers.specs.declared.drives.Drive.{Drive}
use Rattle.rst_drivers.specs.FlatRows.{flat_faults}
use Rattle.rst_drivers.specs.Tables.{AreDrives}
use Rattle.rst_elab.proofs.SignalLemmas.{drives-fit, flat-is}
use Rattle.rst_elab.proofs.elaborating.driven.Goals as goal

pub returns-clause-flat : goal.returns-clause-flat
returns-clause-flat c = λ modules ps is given.
    let drives = rw (c.deref.ensures.value, c.deref-2.ensures.value) at c.in_ok-drives.ensures in
    let made = rw c.deref-3.ensures.value at c.in_ok-signals.ensures in
    let outputs = rw c.deref-4.ensures.value at c.in_ok-outputs.ensures in
    flat-is modules ps c.args.whole.now c.args.units c.in_ok-count.count c.in_ok-drives.drives.items is c.in_ok-count.ensures drives
    (map plain_signal c.in_ok-signals.signals.items) c.in_ok-outputs.outputs.items (map plain_declared c.args.top.facts.now.signals.items) given made outputs

pub returns-clause-passes : goal.returns-clause-passes
returns-clause-passes c = λ modules ps is given.
    let drives = rw (c.deref.ensures.value, c.deref-2.ensures.value) at c.in_ok-drives.ensures in
    let made = rw c.deref-3.ensures.value at c.in_ok-signals.ensures in
    let outputs = rw c.deref-4.ensures.value at c.in_ok-outputs.ensures in
    let fit = drives-fit modules ps c.args.whole.now c.args.units c.in_ok-count.count c.in_ok-drives.drives.items is c.in_ok-count.ensures drives c.in_ok-signals.signals.items made in
    let shown = subst (λ (ds : List Drive). AreDrives (map plain_driver c.args.units.units.items) (map plain_process c.args.units.clocked.items) (length c.in_ok-signals.signals.items) ds)
    (sym c.deref-5.ensures.value) fit in
    let flat = flat-is modules ps c.args.whole.now c.args.units c.in_ok-count.count c.in_ok-drives.drives.items is c.in_ok-count.ensures drives
    (map plain_signal c.in_ok-signals.signals.items) c.in_ok-outputs.outputs.items (map plain_declared c.args.top.facts.now.signals.items) given made outputs in
    ap (λ (x : PlainFlat). first (flat_faults x)) (sym flat) ∙ c.in_ok-flat_passes.ensures.passes shown

pub returns-in_err-flat_passes-clause-refused : goal.returns-in_err-flat_passes-clause-refused
returns-in_err-flat_passes-clause-refused c =
    let r = err_from_is_err_and c.from_residual-in_err-flat_passes.result c.from_residual-in_err-flat_passes.ensures.1 in
    rw (r.1, r.2) (λ modules ps is given.
    let drives = rw (c.deref.ensures.value, c.deref-2.ensures.value) at c.in_ok-drives.ensures in
    let made = rw c.deref-3.ensures.value at c.in_ok-signals.ensures in
    let outputs = rw c.deref-4.ensures.value at c.in_ok-outputs.ensures in
    let fit = drives-fit modules ps c.args.whole.now c.args.units c.in_ok-count.count c.in_ok-drives.drives.items is c.in_ok-count.ensures drives c.in_ok-signals.signals.items made in
    let shown = subst (λ (ds : List Drive). AreDrives (map plain_driver c.args.units.units.items) (map plain_process c.args.units.clocked.items) (length c.in_ok-signals.signals.items) ds)
    (sym c.deref-5.ensures.value) fit in
    let flat = flat-is modules ps c.args.whole.now c.args.units c.in_ok-count.count c.in_ok-drives.drives.items is c.in_ok-count.ensures drives
    (map plain_signal c.in_ok-signals.signals.items) c.in_ok-outputs.outputs.items (map plain_declared c.args.top.facts.now.signals.items) given made outputs in
    subst (λ (x : PlainFlat). Refuses c.in_err-flat_passes.field-0.0 (flat_faults x)) flat (c.in_err-flat_passes.ensures.refused shown))
