use Rattle.std.proofs.Common.{◌≡◌, List, ◌∷◌, None, map, sym, ap, subst, ◌∙◌}
use Rattle.std.specs.List.{All}
use Rattle.std.specs.Option.{option_copied}
use Rattle.std.proofs.lemmas.Result.{err_from_is_err_and, IfOk-weaker, IfErr-weaker}
use Rattle.rst_net.specs.Units.{plain_flat}
use Rattle.rst_names.specs.Faults.{Refuses, first}
use Rattle.rst_names.proofs.RowLemmas.{none_append, refuses_front, refuses_behind}
use Rattle.rst_instances.specs.declared.design.Located.{Located}
use Rattle.rst_instances.specs.Places.{Place, top_place, instances}
use Rattle.rst_instances.specs.RangeRows.{range_row_faults}
use Rattle.rst_instances.specs.Tables.{plain_place, IsPlace}
use Rattle.rst_elab.specs.Elaborated.{flat_from, flat_below, located_faults, place_faults}
use Rattle.rst_elab.specs.Tables.{AreAll}
use Rattle.rst_elab.proofs.StageLemmas.{below_top, top-first, top-within, ports-fit, are-placed, signals-fit, are-all}
use Rattle.rst_elab.proofs.elaborating.placed.Goals as goal

pub returns-in_err-ranges_pass-clause-refused : goal.returns-in_err-ranges_pass-clause-refused
returns-in_err-ranges_pass-clause-refused c =
    let r = err_from_is_err_and c.from_residual-in_err-ranges_pass.result c.from_residual-in_err-ranges_pass.ensures.1 in
    rw (r.1, r.2) (λ modules m ready.
    let right = c.in_ok-places.ensures.right modules ready.design in
    let are = are-placed modules m c.args.of c.args.design.now ready c.args.top.now (option_copied c.args.clock) c.in_ok-places.places.items right
    (c.in_ok-places.ensures.placed modules ready.design (top-within modules m c.args.of c.args.design.now ready) (ports-fit modules m c.args.of c.args.design.now ready)) in
    let shown_places = subst (All (IsPlace modules)) (sym c.deref.ensures.value) right in
    refuses_front c.in_err-ranges_pass.field-0.0 (range_row_faults (instances modules c.args.top.now m (option_copied c.args.clock))) (located_faults (option_copied c.args.clock) (top_place c.args.top.now m (option_copied c.args.clock)) (instances modules c.args.top.now m (option_copied c.args.clock)))
    (subst (λ (xs : List Place). Refuses c.in_err-ranges_pass.field-0.0 (range_row_faults xs)) (ap (map (plain_place modules)) c.deref.ensures.value ∙ are.same)
    (c.in_err-ranges_pass.ensures.refused modules ready.design shown_places)))

pub returns-clause-flat : goal.returns-clause-flat
returns-clause-flat c = λ modules m ready.
    let right = c.in_ok-places.ensures.right modules ready.design in
    let are = are-placed modules m c.args.of c.args.design.now ready c.args.top.now (option_copied c.args.clock) c.in_ok-places.places.items right
    (c.in_ok-places.ensures.placed modules ready.design (top-within modules m c.args.of c.args.design.now ready) (ports-fit modules m c.args.of c.args.design.now ready)) in
    let all = are-all modules m c.args.of c.args.design.now ready c.args.top.now (option_copied c.args.clock) c.in_ok-places.places.items c.in_ok-all.all.items are
    (c.in_ok-all.ensures.located modules ready.design right (signals-fit modules m c.args.of c.args.design.now ready c.args.top.now (option_copied c.args.clock) c.in_ok-places.places.items are))
    (c.in_ok-all.ensures.right modules ready.design right (signals-fit modules m c.args.of c.args.design.now ready c.args.top.now (option_copied c.args.clock) c.in_ok-places.places.items are)) in
    let shown = subst (λ (ls : List Located). AreAll modules (top_place c.args.top.now m (option_copied c.args.clock) ∷ below_top modules c.args.top.now m (option_copied c.args.clock)) c.args.design.now ls)
    (sym c.deref-2.ensures.value) all in
    IfOk-weaker c.flat_of_all.result (λ f. plain_flat f ≡ flat_from (top_place c.args.top.now m (option_copied c.args.clock)) ((top_place c.args.top.now m (option_copied c.args.clock)) ∷ (below_top modules c.args.top.now m (option_copied c.args.clock)))) (λ f. plain_flat f ≡ flat_below modules c.args.top.now (option_copied c.args.clock) m)
    (λ f h. h ∙ ap (flat_from (top_place c.args.top.now m (option_copied c.args.clock))) (sym (top-first modules c.args.top.now m (option_copied c.args.clock))))
    (c.flat_of_all.ensures.flat modules (top_place c.args.top.now m (option_copied c.args.clock)) (below_top modules c.args.top.now m (option_copied c.args.clock)) shown)

pub returns-clause-passes : goal.returns-clause-passes
returns-clause-passes c = λ modules m ready.
    let right = c.in_ok-places.ensures.right modules ready.design in
    let are = are-placed modules m c.args.of c.args.design.now ready c.args.top.now (option_copied c.args.clock) c.in_ok-places.places.items right
    (c.in_ok-places.ensures.placed modules ready.design (top-within modules m c.args.of c.args.design.now ready) (ports-fit modules m c.args.of c.args.design.now ready)) in
    let all = are-all modules m c.args.of c.args.design.now ready c.args.top.now (option_copied c.args.clock) c.in_ok-places.places.items c.in_ok-all.all.items are
    (c.in_ok-all.ensures.located modules ready.design right (signals-fit modules m c.args.of c.args.design.now ready c.args.top.now (option_copied c.args.clock) c.in_ok-places.places.items are))
    (c.in_ok-all.ensures.right modules ready.design right (signals-fit modules m c.args.of c.args.design.now ready c.args.top.now (option_copied c.args.clock) c.in_ok-places.places.items are)) in
    let shown = subst (λ (ls : List Located). AreAll modules (top_place c.args.top.now m (option_copied c.args.clock) ∷ below_top modules c.args.top.now m (option_copied c.args.clock)) c.args.design.now ls)
    (sym c.deref-2.ensures.value) all in
    let shown_places = subst (All (IsPlace modules)) (sym c.deref.ensures.value) right in
    let ranges = ap (λ (xs : List Place). first (range_row_faults xs)) (sym (ap (map (plain_place modules)) c.deref.ensures.value ∙ are.same)) ∙ c.in_ok-ranges_pass.ensures.passes modules ready.design shown_places in
    IfOk-weaker c.flat_of_all.result (λ f. first (located_faults (option_copied c.args.clock) (top_place c.args.top.now m (option_copied c.args.clock)) ((top_place c.args.top.now m (option_copied c.args.clock)) ∷ (below_top modules c.args.top.now m (option_copied c.args.clock)))) ≡ None)
    (λ f. first (place_faults (option_copied c.args.clock) (top_place c.args.top.now m (option_copied c.args.clock)) (instances modules c.args.top.now m (option_copied c.args.clock))) ≡ None)
    (λ f h. none_append (range_row_faults (instances modules c.args.top.now m (option_copied c.args.clock))) (located_faults (option_copied c.args.clock) (top_place c.args.top.now m (option_copied c.args.clock)) (instances modules c.args.top.now m (option_copied c.args.clock))) ranges
    (ap (λ (xs : List Place). first (located_faults (option_copied c.args.clock) (top_place c.args.top.now m (option_copied c.args.clock)) xs)) (top-first modules c.args.top.now m (option_copied c.args.clock)) ∙ h))
    (c.flat_of_all.ensures.passes modules (top_place c.args.top.now m (option_copied c.args.clock)) (below_top modules c.args.top.now m (option_copied c.args.clock)) shown)

pub returns-clause-refused : goal.returns-clause-refused
returns-clause-refused c = λ modules m ready.
    let right = c.in_ok-places.ensures.right modules ready.design in
    let are = are-placed modules m c.args.of c.args.design.now ready c.args.top.now (option_copied c.args.clock) c.in_ok-places.places.items right
    (c.in_ok-places.ensures.placed modules ready.design (top-within modules m c.args.of c.args.design.now ready) (ports-fit modules m c.args.of c.args.design.now ready)) in
    let all = are-all modules m c.args.of c.args.design.now ready c.args.top.now (option_copied c.args.clock) c.in_ok-places.places.items c.in_ok-all.all.items are
    (c.in_ok-all.ensures.located modules ready.design right (signals-fit modules m c.args.of c.args.design.now ready c.args.top.now (option_copied c.args.clock) c.in_ok-places.places.items are))
    (c.in_ok-all.ensures.right modules ready.design right (signals-fit modules m c.args.of c.args.design.now ready c.args.top.now (option_copied c.args.clock) c.in_ok-places.places.items are)) in
    let shown = subst (λ (ls : List Located). AreAll modules (top_place c.args.top.now m (option_copied c.args.clock) ∷ below_top modules c.args.top.now m (option_copied c.args.clock)) c.args.design.now ls)
    (sym c.deref-2.ensures.value) all in
    let shown_places = subst (All (IsPlace modules)) (sym c.deref.ensures.value) right in
    let ranges = ap (λ (xs : List Place). first (range_row_faults xs)) (sym (ap (map (plain_place modules)) c.deref.ensures.value ∙ are.same)) ∙ c.in_ok-ranges_pass.ensures.passes modules ready.design shown_places in
    IfErr-weaker c.flat_of_all.result (λ e. Refuses e (located_faults (option_copied c.args.clock) (top_place c.args.top.now m (option_copied c.args.clock)) ((top_place c.args.top.now m (option_copied c.args.clock)) ∷ (below_top modules c.args.top.now m (option_copied c.args.clock)))))
    (λ e. Refuses e (place_faults (option_copied c.args.clock) (top_place c.args.top.now m (option_copied c.args.clock)) (instances modules c.args.top.now m (option_copied c.args.clock))))
    (λ e h. refuses_behind e (range_row_faults (instances modules c.args.top.now m (option_copied c.args.clock))) (located_faults (option_copied c.args.clock) (top_place c.args.top.now m (option_copied c.args.clock)) (instances modules c.args.top.now m (option_copied c.args.clock))) ranges
    (subst (λ (xs : List Place). Refuses e (located_faults (option_copied c.args.clock) (top_place c.args.top.now m (option_copied c.args.clock)) xs)) (sym (top-first modules c.args.top.now m (option_copied c.args.clock))) h))
    (c.flat_of_all.ensures.refused modules (top_place c.args.top.now m (option_copied c.args.clock)) (below_top modules c.args.top.now m (option_copied c.args.clock)) shown)
