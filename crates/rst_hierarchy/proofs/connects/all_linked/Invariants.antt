use Rattle.std.proofs.Common.{List, take}
use Rattle.rst_tree.specs.Modules.{PlainModule}
use Rattle.rst_hierarchy.specs.Tables.{AreLinked, AreFacts}
use Rattle.rst_hierarchy.proofs.connects.all_linked.Given as goal

abbrev pub invariant-loop-facts : goal.invariant-loop-facts
invariant-loop-facts l = (modules : List PlainModule) → AreFacts modules l.all → AreLinked (take l.facts-index modules) l.made.items
