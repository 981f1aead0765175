use Rattle.std.proofs.Common.{◌≤◌, length, map, sym, ap, ◌∙◌, arith}
use Rattle.rst_tree.specs.Modules.{PlainModule}
use Rattle.rst_hierarchy.specs.Tables.{AreRight, module_of}
use Rattle.rst_names.proofs.Turns.{read}
use Rattle.rst_instances.specs.Parameters.{names_from, unshaped}
use Rattle.rst_instances.specs.Tables.{later_names}
use Rattle.rst_instances.proofs.TurnLemmas.{all_at, built_more, built_end, map_through}
use Rattle.rst_instances.proofs.design.design_of.Goals as goal

pub loop-one-preserved : goal.loop-one-preserved
loop-one-preserved c = λ modules are.
    let fs = c.args.facts.now in
    let i = c.loop-one.one-index in
    let f = c.one-item.result in
    let right = all_at AreRight fs i f are.all c.loop-one-test.true c.one-item.is in
    built_more later_names (λ g. names_from (unshaped (module_of g))) fs i f c.loop-one.unshaped.items c.push.new.self.items c.in_ok-names.names (map (λ g. names_from (unshaped (module_of g))) fs)
    (read fs i f c.loop-one-test.true c.one-item.is) c.in_ok-push.ensures.items (c.in_ok-names.ensures (module_of f) right) (c.loop-one.invariant modules are)

pub returns : goal.returns
returns c = λ table are.
    let fs = c.args.facts.now in
    let show = λ (m : PlainModule). names_from (unshaped m) in
    let past : length fs ≤ c.loop-one.one-index = omega arith in
    record {
      places = table.places;
      declared = are;
      later = built_end (λ g. names_from (unshaped (module_of g))) fs c.loop-one.one-index (map later_names c.loop-one.unshaped.items) (map (λ g. names_from (unshaped (module_of g))) fs) past (c.loop-one.invariant _ are)
          ∙ sym (map_through show module_of fs) ∙ ap (map show) are.of;
    }
