use Rattle.std.proofs.Common.{◌≡◌, ◌++◌, map, drop, Bor}
use Rattle.rst_tree.specs.declared.module.Module.{Module}
use Rattle.rst_tree.specs.Modules.{plain_module}
use Rattle.rst_hierarchy.specs.Tables.{plain_modules, placed}
use Rattle.rst_hierarchy.proofs.modules.all_placed.Given as goal

abbrev pub invariant-loop-module : goal.invariant-loop-module
invariant-loop-module l = map (λ v. v.items) l.made.items ++ map (placed (plain_modules l.modules)) (map (λ (r : Bor Module). plain_module r.now) (drop l.module-index l.modules.list.items)) ≡ map (placed (plain_modules l.modules)) (plain_modules l.modules)
