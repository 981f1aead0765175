use Rattle.std.proofs.Common.{◌+◌, List, drop, map, sym, ap, ◌∙◌}
use Rattle.rst_tree.specs.Modules.{plain_param_decl}
use Rattle.rst_names.proofs.Turns.{at, read}
use Rattle.rst_instances.specs.Parameters.{Valued, values_of_decls}
use Rattle.rst_instances.specs.Settings.{values_in}
use Rattle.rst_instances.proofs.parameters.push_decls.Goals as goal

pub loop-d-preserved : goal.loop-d-preserved
loop-d-preserved c =
    let xs = c.args.decls.now in
    let i = c.loop-d.d-index in
    let x = c.d-item.result in
    let is = read xs i x c.loop-d-test.true c.d-item.is in
    record {
      known = λ old. c.in_ok-push_values.ensures.known (c.loop-d.invariant.known old);
      added = λ m outside links set old.
          ap (λ (vs : List Valued). values_of_decls m outside links vs (map plain_param_decl (drop (i + 1) xs))) (c.in_ok-push_values.ensures.added m outside links set (c.loop-d.invariant.known old))
          ∙ ap (λ l. values_of_decls m outside links (values_in c.loop-d.made) (map plain_param_decl l)) (sym (at xs i x is).back) ∙ c.loop-d.invariant.added m outside links set old;
    }
