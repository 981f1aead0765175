use Rattle.std.proofs.Common.{◌≡◌, Bool, map, drop}
use Rattle.rst_tree.specs.Modules.{PlainModule}
use Rattle.rst_names.specs.Faults.{first}
use Rattle.rst_hierarchy.specs.Hierarchy.{recursive}
use Rattle.rst_hierarchy.specs.Tables.{plain_modules, faults_where}
use Rattle.rst_hierarchy.proofs.hierarchy.none_recursive.Given as goal

abbrev pub invariant-loop-place : goal.invariant-loop-place
invariant-loop-place l = (test : PlainModule → Bool) → l.used ≡ map test (plain_modules l.modules)
    → first (faults_where test (recursive (plain_modules l.modules)) (drop l.place (plain_modules l.modules))) ≡ first (faults_where test (recursive (plain_modules l.modules)) (plain_modules l.modules))
