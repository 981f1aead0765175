use Rattle.std.proofs.Common.{◌≡◌, ◌++◌, map, drop, Bor}
use Rattle.rst_tree.specs.declared.module.Module.{Module}
use Rattle.rst_tree.specs.Modules.{plain_module, plain_source}
use Rattle.rst_hierarchy.proofs.modules.push_modules.Given as goal

abbrev pub invariant-loop-module : goal.invariant-loop-module
invariant-loop-module l = map (λ (r : Bor Module). plain_module r.now) l.list.items ++ map plain_module (drop l.module-index l.source.modules.items) ≡ map (λ (r : Bor Module). plain_module r.now) l.fn.list.items ++ plain_source l.source
