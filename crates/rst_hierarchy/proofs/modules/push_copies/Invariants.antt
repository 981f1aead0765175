use Rattle.std.proofs.Common.{◌≡◌, ◌++◌, map, drop}
use Rattle.rst_tree.specs.Modules.{PlainCopied, Instances, plain_copied, plain_instance}
use Rattle.rst_hierarchy.specs.Hierarchy.{placed_by}
use Rattle.rst_hierarchy.specs.Tables.{plain_modules, places_named}
use Rattle.rst_hierarchy.proofs.modules.push_copies.Given as goal

abbrev pub invariant-loop-copy : goal.invariant-loop-copy
invariant-loop-copy l = l.made.items ++ places_named (plain_modules l.modules) (map (λ (c : PlainCopied). l.instance.«module») (map plain_copied (drop l._copy-index l.instance.copies.items))) ≡ l.fn.made.items ++ places_named (plain_modules l.modules) (placed_by (Instances (plain_instance l.instance)))
