-- An instance as its items and the links to it see it.
use Rattle.std.specs.Prelude.{ℕ, List, Option}
use Rattle.std.specs.Option.{option_map}
use Rattle.rst_tree.specs.Trees.{Text}
use Rattle.rst_tree.specs.Modules.{PlainCopied}
use Rattle.rst_width.specs.Scopes.{Names}
use Rattle.rst_names.specs.Declarations.{declarations, ports}
use Rattle.rst_names.specs.Tables.{Total, total_in}
use Rattle.rst_instances.specs.Places.{Joined, joined_of, Located, names_at, width_in, copy_of}

pub record Seen : Type 0 where
  pub path : Text
  pub prefix : Text
  -- what is declared of a name, and what it stands for
  pub total : Text → Total
  pub names : Names
  -- the width of a signal
  pub width : Text → ℕ
  -- where a name leads to outside
  pub leads : Text → Joined
  pub port_names : List Text

abbrev pub seen : Located → Seen
seen l = record {
  path = l.place.path;
  prefix = l.place.prefix;
  total = total_in (declarations l.place.of);
  names = names_at l;
  width = width_in l.place;
  leads = joined_of l.place.joins;
  port_names = ports l.place.of;
}

-- which instance each copy of an instance's items places
abbrev pub Placed : Type 0
Placed = PlainCopied → Option Seen

abbrev pub placed : List Located → Located → Placed
placed ls l c = option_map seen (copy_of ls l c)
