use Rattle.std.proofs.Common.{◌≡◌, List, None, map, subst}
use Rattle.std.specs.Prelude.{OnOk, IfErr}
use Rattle.std.specs.List.{flat_map}
use Rattle.rst_width.specs.Scopes.{names_with}
use Rattle.rst_names.specs.Faults.{Fault, Refuses, first}
use Rattle.rst_instances.specs.declared.extents as memory
use Rattle.rst_instances.specs.Rows.{plain_ranged, range_faults}
use Rattle.rst_instances.proofs.ExtentLemmas.{row_at}
use Rattle.rst_instances.proofs.extents.instance_passes.Goals as goal

pub returns-in_ok-declarations-in-Some-clause-passes : goal.returns-in_ok-declarations-in-Some-clause-passes
returns-in_ok-declarations-in-Some-clause-passes c = λ modules h right.
    let p = c.args.place.now in
    let t = c.in-Some.tables in
    let ds = c.in_ok-declarations-in-Some.declarations.items in
    let row = range_faults c.args.row p.prefix (names_with p.params t.unshaped.now) in
    subst (λ (fs : List Fault). OnOk c.declarations_pass.result (first fs ≡ None)) (row_at modules c.args.row p t ds right (c.in-Some.ensures.right modules h) c.in_ok-declarations-in-Some.ensures)
    (subst (λ (xs : List memory.Ranged.Ranged). OnOk c.declarations_pass.result (first (flat_map row (map plain_ranged xs)) ≡ None)) c.deref.ensures.value c.declarations_pass.ensures.passes)

pub returns-in_ok-declarations-in-Some-clause-refused : goal.returns-in_ok-declarations-in-Some-clause-refused
returns-in_ok-declarations-in-Some-clause-refused c = λ modules h right.
    let p = c.args.place.now in
    let t = c.in-Some.tables in
    let ds = c.in_ok-declarations-in-Some.declarations.items in
    let row = range_faults c.args.row p.prefix (names_with p.params t.unshaped.now) in
    subst (λ (fs : List Fault). IfErr c.declarations_pass.result (λ e. Refuses e fs)) (row_at modules c.args.row p t ds right (c.in-Some.ensures.right modules h) c.in_ok-declarations-in-Some.ensures)
    (subst (λ (xs : List memory.Ranged.Ranged). IfErr c.declarations_pass.result (λ e. Refuses e (flat_map row (map plain_ranged xs)))) c.deref.ensures.value c.declarations_pass.ensures.refused)
