use Rattle.std.proofs.Common.{◌≡◌, ◌++◌, None, sym, subst, ◌∙◌}
use Rattle.std.specs.Option.{option_copied}
use Rattle.std.proofs.lemmas.Result.{IfOk-weaker, IfErr-weaker}
use Rattle.rst_names.specs.Faults.{Refuses, first}
use Rattle.rst_names.proofs.RowLemmas.{none_append, refuses_behind}
use Rattle.rst_hierarchy.specs.Hierarchy.{hierarchy_faults, name_faults}
use Rattle.rst_hierarchy.specs.Tables.{plain_modules, AreFacts}
use Rattle.rst_instances.specs.Places.{top_place, instances}
use Rattle.rst_elab.specs.Elaborated.{place_faults, faults_below}
use Rattle.rst_elab.specs.Tables.{IsReady}
use Rattle.rst_elab.proofs.CountLemmas.{few_instances}
use Rattle.rst_elab.proofs.elaborating.below.Goals as goal

pub returns-clause-flat : goal.returns-clause-flat
returns-clause-flat c = λ m at.
    let design = c.in_ok-design.ensures c.requires.table (subst (AreFacts (plain_modules c.args.modules.now)) (sym c.deref-2.ensures.value) c.in_ok-facts.ensures.facts) in
    let hierarchy = c.in_ok-used.ensures.passes m at in
    let ready : IsReady (plain_modules c.args.modules.now) m c.args.of c.in_ok-design.design = record { design = design; formed = c.requires.formed; at = at; few = few_instances (plain_modules c.args.modules.now) m hierarchy } in
    c.placed.ensures.flat (plain_modules c.args.modules.now) m ready

pub returns-clause-passes : goal.returns-clause-passes
returns-clause-passes c = λ m at.
    let design = c.in_ok-design.ensures c.requires.table (subst (AreFacts (plain_modules c.args.modules.now)) (sym c.deref-2.ensures.value) c.in_ok-facts.ensures.facts) in
    let hierarchy = c.in_ok-used.ensures.passes m at in
    let ready : IsReady (plain_modules c.args.modules.now) m c.args.of c.in_ok-design.design = record { design = design; formed = c.requires.formed; at = at; few = few_instances (plain_modules c.args.modules.now) m hierarchy } in
    let names = c.in_ok-facts.ensures.passes m (c.deref.ensures.value ∙ c.in_ok-used.ensures.used m at) in
    IfOk-weaker c.placed.result (λ f. first (place_faults (option_copied c.args.clock) (top_place c.args.top.now m (option_copied c.args.clock)) (instances (plain_modules c.args.modules.now) c.args.top.now m (option_copied c.args.clock))) ≡ None) (λ f. first (faults_below (plain_modules c.args.modules.now) c.args.top.now (option_copied c.args.clock) m) ≡ None)
    (λ f h. none_append (hierarchy_faults (plain_modules c.args.modules.now) m) (name_faults (plain_modules c.args.modules.now) m ++ (place_faults (option_copied c.args.clock) (top_place c.args.top.now m (option_copied c.args.clock)) (instances (plain_modules c.args.modules.now) c.args.top.now m (option_copied c.args.clock)))) hierarchy (none_append (name_faults (plain_modules c.args.modules.now) m) (place_faults (option_copied c.args.clock) (top_place c.args.top.now m (option_copied c.args.clock)) (instances (plain_modules c.args.modules.now) c.args.top.now m (option_copied c.args.clock))) names h))
    (c.placed.ensures.passes (plain_modules c.args.modules.now) m ready)

pub returns-clause-refused : goal.returns-clause-refused
returns-clause-refused c = λ m at.
    let design = c.in_ok-design.ensures c.requires.table (subst (AreFacts (plain_modules c.args.modules.now)) (sym c.deref-2.ensures.value) c.in_ok-facts.ensures.facts) in
    let hierarchy = c.in_ok-used.ensures.passes m at in
    let ready : IsReady (plain_modules c.args.modules.now) m c.args.of c.in_ok-design.design = record { design = design; formed = c.requires.formed; at = at; few = few_instances (plain_modules c.args.modules.now) m hierarchy } in
    let names = c.in_ok-facts.ensures.passes m (c.deref.ensures.value ∙ c.in_ok-used.ensures.used m at) in
    IfErr-weaker c.placed.result (λ e. Refuses e (place_faults (option_copied c.args.clock) (top_place c.args.top.now m (option_copied c.args.clock)) (instances (plain_modules c.args.modules.now) c.args.top.now m (option_copied c.args.clock)))) (λ e. Refuses e (faults_below (plain_modules c.args.modules.now) c.args.top.now (option_copied c.args.clock) m))
    (λ e h. refuses_behind e (hierarchy_faults (plain_modules c.args.modules.now) m) (name_faults (plain_modules c.args.modules.now) m ++ (place_faults (option_copied c.args.clock) (top_place c.args.top.now m (option_copied c.args.clock)) (instances (plain_modules c.args.modules.now) c.args.top.now m (option_copied c.args.clock)))) hierarchy (refuses_behind e (name_faults (plain_modules c.args.modules.now) m) (place_faults (option_copied c.args.clock) (top_place c.args.top.now m (option_copied c.args.clock)) (instances (plain_modules c.args.modules.now) c.args.top.now m (option_copied c.args.clock))) names h))
    (c.placed.ensures.refused (plain_modules c.args.modules.now) m ready)
