-- The values of parameters as they are worked out one after the other.
use Rattle.std.specs.Prelude.{◌≡◌, nat_eq, List, map}
use Rattle.std.specs.Option.{option_map}
use Rattle.std.specs.Cmp.Lexicographic.{pointwise}
use Rattle.indexmap.specs.IndexMap.{get}
use Rattle.rst_tree.specs.Trees.{Text}
use Rattle.rst_tree.specs.Modules.{PlainModule}
use Rattle.rst_width.specs.Scopes.{Names, names_of}
use Rattle.rst_instances.specs.declared.parameters as memory
use Rattle.rst_instances.specs.Parameters.{Linked, Valued, link_to, names_from, known_values, unshaped}
use Rattle.rst_instances.specs.Tables.{plain_linked, plain_valued, outside_names, later_names}

-- links with a value, in the order of the text
abbrev pub LinkList : Type 0
LinkList = List Linked

-- the values so far
abbrev pub values_in : memory.Values.Values → List Valued
values_in v = map plain_valued v.list.items

-- Their scope has those that have a value.
pub record AreKnown (v : memory.Values.Values) : Type 0 where
  pub scope_names : names_of v.scope ≡ names_from (known_values (values_in v))

-- How the parameters of an instance of m are set: by these links, worked out among these names outside.
pub record IsSetting (m : PlainModule) (outside : Names) (links : List Linked) (s : memory.Setting.Setting) : Type 0 where
  pub by_name : (name : Text) → option_map plain_linked (get (pointwise nat_eq) s.links name) ≡ link_to links name
  pub around : outside_names s.outside ≡ outside
  pub later : later_names s.unshaped.now ≡ names_from (unshaped m)
