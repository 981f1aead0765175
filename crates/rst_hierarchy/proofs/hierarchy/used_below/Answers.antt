use Rattle.std.proofs.Common.{◌≡◌, [], ◌++◌, map, None, ℕ, ◌∷◌}
use Rattle.std.specs.List.{flat_map}
use Rattle.rst_tree.specs.Modules.{plain_module}
use Rattle.rst_names.specs.Faults.{first}
use Rattle.rst_hierarchy.specs.Hierarchy.{depth_limit, instance_limit, is_used, row_faults}
use Rattle.rst_hierarchy.specs.Tables.{plain_modules}
use Rattle.rst_hierarchy.proofs.hierarchy.used_below.Goals as goal
use Rattle.std.proofs.Common.{refl, ap, ◌∙◌}
use Rattle.std.proofs.lemmas.Result.{err_from_is_err_and}
use Rattle.std.proofs.Common.{Vec, Global}
use Rattle.rst_names.proofs.RowLemmas.{none_append, refuses_behind}
use Rattle.rst_hierarchy.specs.Hierarchy.{NoModule, Recursive}

pub returns-in_err-limits_pass-clause-refused : goal.returns-in_err-limits_pass-clause-refused
returns-in_err-limits_pass-clause-refused c =
    let ms = plain_modules c.args.modules.now in
    let top = plain_module c.args.top.now in
    let e = c.in_err-limits_pass.field-0.0 in
    let known : first (row_faults ms top NoModule) ≡ None = c.in_ok-known_pass.ensures.passes (is_used ms top) (c.deref-3.ensures.value ∙ c.in_ok-used.ensures) in
    let ends : first (row_faults ms top Recursive) ≡ None = c.in_ok-none_recursive.ensures.passes (is_used ms top) (c.deref-4.ensures.value ∙ c.in_ok-used.ensures) in
    let below = ap (map (λ (v : Vec ℕ Global). v.items)) c.deref-6.ensures.value ∙ c.in_ok-below.ensures in
    let p = err_from_is_err_and c.from_residual-in_err-limits_pass.result c.from_residual-in_err-limits_pass.ensures.1 in
    rw (p.1, p.2)
    (refuses_behind e (flat_map (row_faults ms top) (NoModule ∷ Recursive ∷ [])) (depth_limit ms top ++ instance_limit ms top)
    (none_append (row_faults ms top NoModule) (row_faults ms top Recursive ++ []) known (none_append (row_faults ms top Recursive) [] ends refl))
    (c.in_err-limits_pass.ensures.refused ms below top c.requires.top))
