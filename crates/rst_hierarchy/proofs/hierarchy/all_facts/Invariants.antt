use Rattle.std.proofs.Common.{◌≡◌, map, take}
use Rattle.std.specs.List.{All}
use Rattle.rst_hierarchy.specs.Tables.{plain_modules, module_of, AreRight}
use Rattle.rst_hierarchy.proofs.hierarchy.all_facts.Given as goal

abbrev pub invariant-loop-module : goal.invariant-loop-module
invariant-loop-module l = record { right : All AreRight l.all.items; of : map module_of l.all.items ≡ take l.module-index (plain_modules l.modules) }
