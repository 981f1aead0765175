use Rattle.std.proofs.Common.{◌≡◌, List, None, OnOk, IfOk, IfErr, subst}
use Rattle.std.specs.Option.{option_copied}
use Rattle.std.proofs.lemmas.Result.{IfOk-weaker, IfErr-weaker}
use Rattle.rst_tree.specs.Modules.{PlainModule}
use Rattle.rst_net.specs.Units.{plain_flat}
use Rattle.rst_names.specs.Faults.{Refuses, first}
use Rattle.rst_hierarchy.specs.Tables.{plain_modules}
use Rattle.rst_elab.specs.Elaborated.{flat_below, faults_below, faults, IsFlat}
use Rattle.rst_elab.proofs.TopLemmas.{top-at, no-top, below-passes, below-refuses}
use Rattle.rst_elab.proofs.elaborating.elaborate.Goals as goal

pub returns-in-None-clause-refused : goal.returns-in-None-clause-refused
returns-in-None-clause-refused c =
    subst (λ (ms : List PlainModule). Refuses c.refusal.result (faults ms c.args.top.now (option_copied c.args.clock))) c.in_ok-modules.ensures.modules
    (no-top (plain_modules c.in_ok-modules.modules) c.args.top.now (option_copied c.args.clock) c.in_ok-text_passes.ensures.passes c.refusal.result c.in_ok-name.name c.in_ok-name.ensures.ok
    (c.in-None.ensures c.in_ok-modules.ensures.table) c.refusal.ensures)

pub returns-clause-accepted : goal.returns-clause-accepted
returns-clause-accepted c =
    let there = top-at (plain_modules c.in_ok-modules.modules) c.args.top.now c.in_ok-name.name c.in-Some.of c.in_ok-name.ensures.ok (c.in-Some.ensures c.in_ok-modules.ensures.table) in
    subst (λ (ms : List PlainModule). OnOk c.below.result (first (faults ms c.args.top.now (option_copied c.args.clock)) ≡ None)) c.in_ok-modules.ensures.modules
    (IfOk-weaker c.below.result (λ f. first (faults_below (plain_modules c.in_ok-modules.modules) c.args.top.now (option_copied c.args.clock) there.of) ≡ None) (λ f. first (faults (plain_modules c.in_ok-modules.modules) c.args.top.now (option_copied c.args.clock)) ≡ None)
    (λ f h. below-passes (plain_modules c.in_ok-modules.modules) c.args.top.now (option_copied c.args.clock) c.in_ok-text_passes.ensures.passes there.of there.named h) (c.below.ensures.passes there.of there.at))

pub returns-clause-flat : goal.returns-clause-flat
returns-clause-flat c =
    let there = top-at (plain_modules c.in_ok-modules.modules) c.args.top.now c.in_ok-name.name c.in-Some.of c.in_ok-name.ensures.ok (c.in-Some.ensures c.in_ok-modules.ensures.table) in
    subst (λ (ms : List PlainModule). IfOk c.below.result (λ f. IsFlat ms c.args.top.now (option_copied c.args.clock) (plain_flat f))) c.in_ok-modules.ensures.modules
    (IfOk-weaker c.below.result (λ f. plain_flat f ≡ flat_below (plain_modules c.in_ok-modules.modules) c.args.top.now (option_copied c.args.clock) there.of) (λ f. IsFlat (plain_modules c.in_ok-modules.modules) c.args.top.now (option_copied c.args.clock) (plain_flat f))
    (λ f h. record { of = there.of; is_top = there.named; flat = h }) (c.below.ensures.flat there.of there.at))

pub returns-clause-refused : goal.returns-clause-refused
returns-clause-refused c =
    let there = top-at (plain_modules c.in_ok-modules.modules) c.args.top.now c.in_ok-name.name c.in-Some.of c.in_ok-name.ensures.ok (c.in-Some.ensures c.in_ok-modules.ensures.table) in
    subst (λ (ms : List PlainModule). IfErr c.below.result (λ e. Refuses e (faults ms c.args.top.now (option_copied c.args.clock)))) c.in_ok-modules.ensures.modules
    (IfErr-weaker c.below.result (λ e. Refuses e (faults_below (plain_modules c.in_ok-modules.modules) c.args.top.now (option_copied c.args.clock) there.of)) (λ e. Refuses e (faults (plain_modules c.in_ok-modules.modules) c.args.top.now (option_copied c.args.clock)))
    (λ e h. below-refuses (plain_modules c.in_ok-modules.modules) c.args.top.now (option_copied c.args.clock) c.in_ok-text_passes.ensures.passes there.of there.named e h) (c.below.ensures.refused there.of there.at))
