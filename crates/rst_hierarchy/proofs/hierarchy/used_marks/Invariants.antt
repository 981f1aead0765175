use Rattle.std.proofs.Common.{◌≡◌, ◌++◌, map, drop}
use Rattle.rst_tree.specs.Modules.{plain_module}
use Rattle.rst_hierarchy.specs.Hierarchy.{is_used}
use Rattle.rst_hierarchy.specs.Tables.{plain_modules}
use Rattle.rst_hierarchy.proofs.hierarchy.used_marks.Given as goal

abbrev pub invariant-loop-place : goal.invariant-loop-place
invariant-loop-place l = l.used.items ++ map (is_used (plain_modules l.modules) (plain_module l.top)) (drop l.place (plain_modules l.modules)) ≡ map (is_used (plain_modules l.modules) (plain_module l.top)) (plain_modules l.modules)
