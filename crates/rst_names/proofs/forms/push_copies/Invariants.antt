use Rattle.std.proofs.Common.{◌≡◌, ◌++◌, map, drop}
use Rattle.rst_tree.specs.Modules.{plain_copied}
use Rattle.rst_names.specs.Declarations.{copy_declarations}
use Rattle.rst_names.specs.Tables.{plain_declaration}
use Rattle.rst_names.proofs.forms.push_copies.Given as goal

abbrev pub invariant-loop-copy : goal.invariant-loop-copy
invariant-loop-copy l = map plain_declaration l.made.items ++ copy_declarations (map plain_copied (drop l.copy-index l.copies)) ≡ map plain_declaration l.fn.made.items ++ copy_declarations (map plain_copied l.copies)
