-- What a target may set, by the tables of a module.
use Rattle.std.specs.Prelude.{Bool, not, ◌&&◌}
use Rattle.rst_tree.specs.Trees.{Text}
use Rattle.rst_names.specs.declared.facts.Facts.{Facts}
use Rattle.rst_names.specs.Tables.{total_at}
use Rattle.rst_item_faults.specs.declared.targets.Kind.{Kind}
use Rattle.rst_item_faults.specs.declared.targets.Kind.TheVariants as kind

-- what the tables say of a name that is to be set
abbrev pub kind_in : Kind → Facts → Text → Bool
kind_in kind.Wire f name = (total_at f name).signal && (not (total_at f name).reg && not (total_at f name).input)
kind_in kind.Reg f name = (total_at f name).reg
