use Rattle.std.proofs.Common.{◌≡◌, ◌++◌, map, drop, Bor}
use Rattle.std.specs.List.{flat_map}
use Rattle.rst_tree.specs.declared.module.Module.{Module}
use Rattle.rst_tree.specs.Modules.{plain_module, plain_source}
use Rattle.rst_hierarchy.specs.Tables.{modules_in}
use Rattle.rst_hierarchy.proofs.modules.listed.Given as goal

abbrev pub invariant-loop-source : goal.invariant-loop-source
invariant-loop-source l = map (λ (r : Bor Module). plain_module r.now) l.list.items ++ flat_map plain_source (drop l.source-index l.sources) ≡ modules_in l.sources
