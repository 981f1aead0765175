use Rattle.std.specs.List.{All}
use Rattle.rst_tree.specs.WellFormed.{WellFormed}
use Rattle.rst_hierarchy.specs.Tables.{modules_in}
use Rattle.rst_front_bench.proofs.files.sources_of.Given as goal

abbrev pub invariant-loop-text : goal.invariant-loop-text
invariant-loop-text l = All WellFormed (modules_in l.sources.items)
