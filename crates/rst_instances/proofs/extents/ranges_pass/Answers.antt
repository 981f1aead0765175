use Rattle.std.proofs.Common.{◌≡◌, ◌++◌, List, None, map, sym, ap, subst, ◌∙◌}
use Rattle.std.proofs.lemmas.Result.{err_from_is_err_and, on_ok_weaker, IfErr-weaker}
use Rattle.std.specs.List.{flat_map}
use Rattle.rst_names.specs.Faults.{Fault, Refuses, first}
use Rattle.rst_names.proofs.RowLemmas.{refuses_front, refuses_behind, none_append}
use Rattle.rst_instances.specs.RangeRows.{param_faults, ends_faults, bad_ranges, wide_ranges}
use Rattle.rst_instances.specs.Tables.{plain_place}
use Rattle.rst_instances.proofs.ExtentLemmas.{params_same}
use Rattle.rst_instances.proofs.extents.ranges_pass.Goals as goal

pub returns-in_err-params_pass-clause-refused : goal.returns-in_err-params_pass-clause-refused
returns-in_err-params_pass-clause-refused c =
    let p = err_from_is_err_and c.from_residual.result c.from_residual.ensures.1 in
    rw (p.1, p.2) (λ modules h all.
    let ps = map (plain_place modules) c.args.places.now in
    let e = c.in_err-params_pass.field-0.0 in
    refuses_front e (flat_map param_faults ps) (flat_map ends_faults ps ++ (flat_map bad_ranges ps ++ flat_map wide_ranges ps))
    (subst (λ (fs : List Fault). Refuses e fs) (params_same modules c.args.places.now) c.in_err-params_pass.ensures.refused))

pub returns-in_err-row_passes-clause-refused : goal.returns-in_err-row_passes-clause-refused
returns-in_err-row_passes-clause-refused c =
    let p = err_from_is_err_and c.from_residual-in_err-row_passes.result c.from_residual-in_err-row_passes.ensures.1 in
    rw (p.1, p.2) (λ modules h all.
    let ps = map (plain_place modules) c.args.places.now in
    let e = c.in_err-row_passes.field-0.0 in
    refuses_behind e (flat_map param_faults ps) (flat_map ends_faults ps ++ (flat_map bad_ranges ps ++ flat_map wide_ranges ps)) (ap first (sym (params_same modules c.args.places.now)) ∙ c.in_ok-params_pass.ensures.passes)
    (refuses_front e (flat_map ends_faults ps) (flat_map bad_ranges ps ++ flat_map wide_ranges ps) (c.in_err-row_passes.ensures.refused modules h all)))

pub returns-in_err-row_passes-2-clause-refused : goal.returns-in_err-row_passes-2-clause-refused
returns-in_err-row_passes-2-clause-refused c =
    let p = err_from_is_err_and c.from_residual-in_err-row_passes-2.result c.from_residual-in_err-row_passes-2.ensures.1 in
    rw (p.1, p.2) (λ modules h all.
    let ps = map (plain_place modules) c.args.places.now in
    let e = c.in_err-row_passes-2.field-0.0 in
    refuses_behind e (flat_map param_faults ps) (flat_map ends_faults ps ++ (flat_map bad_ranges ps ++ flat_map wide_ranges ps)) (ap first (sym (params_same modules c.args.places.now)) ∙ c.in_ok-params_pass.ensures.passes)
    (refuses_behind e (flat_map ends_faults ps) (flat_map bad_ranges ps ++ flat_map wide_ranges ps) (c.in_ok-row_passes.ensures.passes modules h all)
    (refuses_front e (flat_map bad_ranges ps) (flat_map wide_ranges ps) (c.in_err-row_passes-2.ensures.refused modules h all))))

pub returns-clause-passes : goal.returns-clause-passes
returns-clause-passes c = λ modules h all.
    let ps = map (plain_place modules) c.args.places.now in
    on_ok_weaker c.row_passes-3.result (λ (none : first (flat_map wide_ranges ps) ≡ None).
    none_append (flat_map param_faults ps) (flat_map ends_faults ps ++ (flat_map bad_ranges ps ++ flat_map wide_ranges ps)) (ap first (sym (params_same modules c.args.places.now)) ∙ c.in_ok-params_pass.ensures.passes)
    (none_append (flat_map ends_faults ps) (flat_map bad_ranges ps ++ flat_map wide_ranges ps) (c.in_ok-row_passes.ensures.passes modules h all)
    (none_append (flat_map bad_ranges ps) (flat_map wide_ranges ps) (c.in_ok-row_passes-2.ensures.passes modules h all) none)))
    (c.row_passes-3.ensures.passes modules h all)

pub returns-clause-refused : goal.returns-clause-refused
returns-clause-refused c = λ modules h all.
    let ps = map (plain_place modules) c.args.places.now in
    IfErr-weaker c.row_passes-3.result (λ e. Refuses e (flat_map wide_ranges ps)) (λ e. Refuses e (flat_map param_faults ps ++ (flat_map ends_faults ps ++ (flat_map bad_ranges ps ++ flat_map wide_ranges ps))))
    (λ e last.
    refuses_behind e (flat_map param_faults ps) (flat_map ends_faults ps ++ (flat_map bad_ranges ps ++ flat_map wide_ranges ps)) (ap first (sym (params_same modules c.args.places.now)) ∙ c.in_ok-params_pass.ensures.passes)
    (refuses_behind e (flat_map ends_faults ps) (flat_map bad_ranges ps ++ flat_map wide_ranges ps) (c.in_ok-row_passes.ensures.passes modules h all)
    (refuses_behind e (flat_map bad_ranges ps) (flat_map wide_ranges ps) (c.in_ok-row_passes-2.ensures.passes modules h all) last)))
    (c.row_passes-3.ensures.refused modules h all)
