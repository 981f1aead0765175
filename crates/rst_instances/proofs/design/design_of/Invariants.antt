use Rattle.std.proofs.Common.{◌≡◌, ◌++◌, List, map, drop}
use Rattle.rst_tree.specs.Modules.{PlainModule}
use Rattle.rst_hierarchy.specs.Tables.{AreFacts, module_of}
use Rattle.rst_instances.specs.Parameters.{names_from, unshaped}
use Rattle.rst_instances.specs.Tables.{later_names}
use Rattle.rst_instances.proofs.design.design_of.Given as goal

abbrev pub invariant-loop-one : goal.invariant-loop-one
invariant-loop-one l = (modules : List PlainModule) → AreFacts modules l.facts → map later_names l.unshaped.items ++ map (λ f. names_from (unshaped (module_of f))) (drop l.one-index l.facts) ≡ map (λ f. names_from (unshaped (module_of f))) l.facts
