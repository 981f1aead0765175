use Rattle.std.proofs.Common.{◌≡◌, map, drop}
use Rattle.rst_tree.specs.Modules.{PlainModule, plain_param_decl, plain_param_name}
use Rattle.rst_width.specs.Scopes.{Names}
use Rattle.rst_instances.specs.Parameters.{values_of_names}
use Rattle.rst_instances.specs.Settings.{LinkList, values_in, AreKnown, IsSetting}
use Rattle.rst_instances.specs.Tables.{answer_of, plain_bits}
use Rattle.rst_instances.proofs.parameters.push_values.Given as goal

abbrev pub invariant-loop-param : goal.invariant-loop-param
invariant-loop-param l = record {
  known : AreKnown l.fn.made → AreKnown l.made;
  added : (m : PlainModule) (outside : Names) (links : LinkList) → IsSetting m outside links l.setting → AreKnown l.fn.made → values_of_names m outside links (plain_param_decl l.d) (answer_of plain_bits l.width) (values_in l.made) (map plain_param_name (drop l.param-index l.d.names.items))
      ≡ values_of_names m outside links (plain_param_decl l.d) (answer_of plain_bits l.width) (values_in l.fn.made) (map plain_param_name l.d.names.items);
}
