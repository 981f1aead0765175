use Rattle.std.proofs.Common.{◌≡◌, ◌≤◌, ◌-◌, max}
use Rattle.rst_tree.specs.Trees.{plain_all}
use Rattle.rst_grammar.specs.Reading.{readers}
use Rattle.rst_grammar.specs.ReadStatement.{label_in, labels_in}
use Rattle.rst_read.proofs.Chains.{with_front}
use Rattle.rst_read.proofs.Lists.{more_by, of_trees}
use Rattle.rst_read.proofs.labels.labels_in.Given as goal

-- what is left to read gives what all gives
abbrev pub invariant-loop : goal.invariant-loop
invariant-loop l = record {
  reads : with_front of_trees (plain_all l.all.trees.items) (more_by of_trees (label_in (readers l.below) l.wild) (l.turns - l.counter) l.rest) ≡ labels_in (readers l.below) l.wild l.symbols;
  within : l.all.depth ≤ max l.below 1;
}
