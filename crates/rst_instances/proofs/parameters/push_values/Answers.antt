use Rattle.std.proofs.Common.{ℕ, ◌+◌, ◌≤◌, List, Option, Result, length, drop, map, sym, ap, ◌∙◌, arith, drop_of_length-le}
use Rattle.std.specs.Option.{option_map}
use Rattle.rst_tree.specs.Modules.{plain_param_decl, plain_param_name, plain_range}
use Rattle.rst_width.specs.Scopes.{Names}
use Rattle.rst_names.specs.declared.faults.ElabCode.{ElabCode}
use Rattle.rst_names.proofs.Turns.{at}
use Rattle.rst_instances.specs.Parameters.{Valued, param_width, values_of_names}
use Rattle.rst_instances.specs.Settings.{values_in}
use Rattle.rst_instances.specs.Tables.{answer_of, plain_bits}
use Rattle.rst_instances.proofs.ValueLemmas.{behind}
use Rattle.rst_instances.proofs.TurnLemmas.{there_at}
use Rattle.rst_instances.proofs.parameters.push_values.Goals as goal

pub loop-param-preserved : goal.loop-param-preserved
loop-param-preserved c =
    let xs = c.args.d.now.names.items in
    let i = c.loop-param.param-index in
    let x = c.param-item.result in
    let is = there_at c.deref-param-items.result.now xs i x c.deref-param-items.ensures.value c.loop-param-test.true c.param-item.is in
    let width = answer_of plain_bits c.in_ok-width.width in
    let d = plain_param_decl c.args.d.now in
    record {
      known = λ old. c.in_ok-push_value.ensures.known (c.loop-param.invariant.known old);
      added = λ m outside links set old.
          ap (λ (vs : List Valued). values_of_names m outside links d width vs (map plain_param_name (drop (i + 1) xs))) (c.in_ok-push_value.ensures.added m outside links set (c.loop-param.invariant.known old))
          ∙ ap (λ l. values_of_names m outside links d width (values_in c.loop-param.made) (map plain_param_name l)) (sym (at xs i x is).back) ∙ c.loop-param.invariant.added m outside links set old;
    }

pub returns-clause-added : goal.returns-clause-added
returns-clause-added c = λ m outside links set old.
    let xs = c.args.d.now.names.items in
    let i = c.loop-param.param-index in
    let past : length xs ≤ i = omega (arith, ap length c.deref-param-items.ensures.value) in
    let width = answer_of plain_bits c.in_ok-width.width in
    let d = plain_param_decl c.args.d.now in
    let before = c.args.made.now in
    let width_is = c.in_ok-width.ensures ∙ ap (λ (n : Names). param_width n (option_map plain_range c.args.d.now.range)) (behind before.scope c.args.setting.now.unshaped.now m (values_in before) old.scope_names set.later) in
    ap (λ l. values_of_names m outside links d width (values_in c.loop-param.made) (map plain_param_name l)) (sym (drop_of_length-le xs past))
    ∙ c.loop-param.invariant.added m outside links set old
    ∙ ap (λ (w : Result (Option ℕ) ElabCode). values_of_names m outside links d w (values_in before) (map plain_param_name xs)) width_is
