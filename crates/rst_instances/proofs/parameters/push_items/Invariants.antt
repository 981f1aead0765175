use Rattle.std.proofs.Common.{◌≡◌, map, drop}
use Rattle.std.specs.List.{flat_map}
use Rattle.rst_names.specs.Declarations.{item_params}
use Rattle.rst_tree.specs.Modules.{PlainModule, plain_item}
use Rattle.rst_width.specs.Scopes.{Names}
use Rattle.rst_instances.specs.Parameters.{values_of_decls}
use Rattle.rst_instances.specs.Settings.{LinkList, values_in, AreKnown, IsSetting}
use Rattle.rst_instances.proofs.parameters.push_items.Given as goal

abbrev pub invariant-loop-item : goal.invariant-loop-item
invariant-loop-item l = record {
  known : AreKnown l.fn.made → AreKnown l.made;
  added : (m : PlainModule) (outside : Names) (links : LinkList) → IsSetting m outside links l.setting → AreKnown l.fn.made → values_of_decls m outside links (values_in l.made) (flat_map item_params (map plain_item (drop l.item-index l.items))) ≡ values_of_decls m outside links (values_in l.fn.made) (flat_map item_params (map plain_item l.items));
}
