use Rattle.std.proofs.Common.{◌≡◌, ◌++◌, map, drop, Bor}
use Rattle.rst_tree.specs.Trees.{Text}
use Rattle.rst_tree.specs.Modules.{PlainParamName, plain_param_name}
use Rattle.rst_names.proofs.facts.push_settable.Given as goal

abbrev pub invariant-loop-param : goal.invariant-loop-param
invariant-loop-param l = map (λ (n : Bor Text). n.now) l.made.items ++ map (λ (n : PlainParamName). n.name) (map plain_param_name (drop l.param-index l.d.names.items)) ≡ map (λ (n : Bor Text). n.now) l.fn.made.items ++ map (λ (n : PlainParamName). n.name) (map plain_param_name l.d.names.items)
