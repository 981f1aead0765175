use Rattle.std.proofs.Common.{◌≡◌, map, drop}
use Rattle.rst_tree.specs.Modules.{PlainModule, plain_param_decl}
use Rattle.rst_width.specs.Scopes.{Names}
use Rattle.rst_instances.specs.Parameters.{values_of_decls}
use Rattle.rst_instances.specs.Settings.{LinkList, values_in, AreKnown, IsSetting}
use Rattle.rst_instances.proofs.parameters.push_decls.Given as goal

abbrev pub invariant-loop-d : goal.invariant-loop-d
invariant-loop-d l = record {
  known : AreKnown l.fn.made → AreKnown l.made;
  added : (m : PlainModule) (outside : Names) (links : LinkList) → IsSetting m outside links l.setting → AreKnown l.fn.made → values_of_decls m outside links (values_in l.made) (map plain_param_decl (drop l.d-index l.decls)) ≡ values_of_decls m outside links (values_in l.fn.made) (map plain_param_decl l.decls);
}
