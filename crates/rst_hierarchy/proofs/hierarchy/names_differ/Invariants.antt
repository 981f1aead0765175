use Rattle.std.proofs.Common.{◌≡◌}
use Rattle.rst_names.specs.Faults.{first}
use Rattle.rst_hierarchy.specs.Hierarchy.{two_modules}
use Rattle.rst_hierarchy.specs.Tables.{plain_modules}
use Rattle.rst_hierarchy.proofs.RowsOfModules.{two_left}
use Rattle.rst_hierarchy.proofs.hierarchy.names_differ.Given as goal

abbrev pub invariant-loop-place : goal.invariant-loop-place
invariant-loop-place l = first (two_left (plain_modules l.modules) l.place) ≡ first (two_modules (plain_modules l.modules))
