use Rattle.std.proofs.Common.{◌≡◌, ◌∷◌, None}
use Rattle.std.specs.Option.{option_copied}
use Rattle.std.proofs.lemmas.Result.{err_from_is_err_and, IfOk-weaker, IfErr-weaker}
use Rattle.rst_net.specs.Units.{plain_flat}
use Rattle.rst_names.specs.Faults.{Refuses, first}
use Rattle.rst_names.specs.Tables.{plain_declared}
use Rattle.std.proofs.Common.{map}
use Rattle.rst_instances.specs.Places.{located}
use Rattle.rst_drivers.specs.FlatRows.{flat_faults}
use Rattle.rst_elab.specs.Flats.{flat_of}
use Rattle.rst_elab.specs.Elaborated.{flat_from, located_faults}
use Rattle.rst_elab.proofs.StageLemmas.{items-refuse, clocks-refuse, flat-refuses, none-refuses, units-given, flat-so}
use Rattle.rst_elab.proofs.elaborating.flattened.Goals as goal

pub returns-in_err-items_pass-clause-refused : goal.returns-in_err-items_pass-clause-refused
returns-in_err-items_pass-clause-refused c =
    let r = err_from_is_err_and c.from_residual-in_err-items_pass.result c.from_residual-in_err-items_pass.ensures.1 in
    rw (r.1, r.2) (λ modules p ps is.
    items-refuse modules p ps c.args.whole.now (option_copied c.args.clock) c.in-Some.top.located.now c.in-Some.top.facts.now is c.in-Some.ensures.first c.in-Some.ensures.tables
    c.in_err-items_pass.field-0.0 (c.in_ok-units.ensures.passes modules is.whole) (c.in_err-items_pass.ensures.refused modules is.whole))

pub returns-in_err-all_clocks_pass-clause-refused : goal.returns-in_err-all_clocks_pass-clause-refused
returns-in_err-all_clocks_pass-clause-refused c =
    let r = err_from_is_err_and c.from_residual-in_err-all_clocks_pass.result c.from_residual-in_err-all_clocks_pass.ensures.1 in
    rw (r.1, r.2) (λ modules p ps is.
    clocks-refuse modules p ps c.args.whole.now (option_copied c.args.clock) c.in-Some.top.located.now c.in-Some.top.facts.now is c.in-Some.ensures.first c.in-Some.ensures.tables
    c.in_err-all_clocks_pass.field-0.0 (c.in_ok-units.ensures.passes modules is.whole) (c.in_ok-items_pass.ensures.passes modules is.whole) (c.in_err-all_clocks_pass.ensures.refused modules is.whole))

pub returns-clause-flat : goal.returns-clause-flat
returns-clause-flat c = λ modules p ps is.
    IfOk-weaker c.driven.result (λ f. plain_flat f ≡ flat_of (map plain_declared c.in-Some.top.facts.now.signals.items) (located (p ∷ ps))) (λ f. plain_flat f ≡ flat_from p (p ∷ ps))
    (λ f h. flat-so modules p ps c.args.whole.now (option_copied c.args.clock) c.in-Some.top.located.now c.in-Some.top.facts.now is c.in-Some.ensures.first c.in-Some.ensures.tables (plain_flat f) h)
    (c.driven.ensures.flat modules (p ∷ ps) is (units-given modules p ps c.args.whole.now (option_copied c.args.clock) c.in-Some.top.located.now c.in-Some.top.facts.now is c.in-Some.ensures.first c.in-Some.ensures.tables c.in_ok-units.units (c.in_ok-units.ensures.units modules is.whole) (c.in_ok-units.ensures.clocked modules is.whole)))

pub returns-clause-passes : goal.returns-clause-passes
returns-clause-passes c = λ modules p ps is.
    IfOk-weaker c.driven.result (λ f. first (flat_faults (flat_of (map plain_declared c.in-Some.top.facts.now.signals.items) (located (p ∷ ps)))) ≡ None)
    (λ f. first (located_faults (option_copied c.args.clock) p (p ∷ ps)) ≡ None)
    (λ f h. none-refuses modules p ps c.args.whole.now (option_copied c.args.clock) c.in-Some.top.located.now c.in-Some.top.facts.now is c.in-Some.ensures.first c.in-Some.ensures.tables (c.in_ok-units.ensures.passes modules is.whole) (c.in_ok-items_pass.ensures.passes modules is.whole) (c.in_ok-all_clocks_pass.ensures.passes modules is.whole) h)
    (c.driven.ensures.passes modules (p ∷ ps) is (units-given modules p ps c.args.whole.now (option_copied c.args.clock) c.in-Some.top.located.now c.in-Some.top.facts.now is c.in-Some.ensures.first c.in-Some.ensures.tables c.in_ok-units.units (c.in_ok-units.ensures.units modules is.whole) (c.in_ok-units.ensures.clocked modules is.whole)))

pub returns-clause-refused : goal.returns-clause-refused
returns-clause-refused c = λ modules p ps is.
    IfErr-weaker c.driven.result (λ e. Refuses e (flat_faults (flat_of (map plain_declared c.in-Some.top.facts.now.signals.items) (located (p ∷ ps)))))
    (λ e. Refuses e (located_faults (option_copied c.args.clock) p (p ∷ ps)))
    (λ e h. flat-refuses modules p ps c.args.whole.now (option_copied c.args.clock) c.in-Some.top.located.now c.in-Some.top.facts.now is c.in-Some.ensures.first c.in-Some.ensures.tables e (c.in_ok-units.ensures.passes modules is.whole) (c.in_ok-items_pass.ensures.passes modules is.whole) (c.in_ok-all_clocks_pass.ensures.passes modules is.whole) h)
    (c.driven.ensures.refused modules (p ∷ ps) is (units-given modules p ps c.args.whole.now (option_copied c.args.clock) c.in-Some.top.located.now c.in-Some.top.facts.now is c.in-Some.ensures.first c.in-Some.ensures.tables c.in_ok-units.units (c.in_ok-units.ensures.units modules is.whole) (c.in_ok-units.ensures.clocked modules is.whole)))
