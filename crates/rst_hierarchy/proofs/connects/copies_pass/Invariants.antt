use Rattle.std.proofs.Common.{◌≡◌, List, map, drop}
use Rattle.std.specs.List.{flat_map}
use Rattle.rst_tree.specs.Trees.{Text}
use Rattle.rst_tree.specs.Modules.{plain_copied}
use Rattle.rst_names.specs.Faults.{first}
use Rattle.rst_name_faults.specs.NameRows.{bad_copy}
use Rattle.rst_hierarchy.specs.Tables.{AreNames}
use Rattle.rst_hierarchy.proofs.connects.copies_pass.Given as goal

abbrev pub invariant-loop-copy : goal.invariant-loop-copy
invariant-loop-copy l = (list : List Text) → AreNames list l.names → first (flat_map (bad_copy list) (map plain_copied (drop l.copy-index l.copies))) ≡ first (flat_map (bad_copy list) (map plain_copied l.copies))
