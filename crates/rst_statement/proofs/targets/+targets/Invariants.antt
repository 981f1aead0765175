use Rattle.std.proofs.Common.{◌≡◌, ◌≤◌, ◌+◌, ◌-◌, ◌*◌}
use Rattle.rst_tree.specs.Targets.{plain_targets}
use Rattle.rst_grammar.specs.ReadStatement.{target_reader}
use Rattle.rst_statement.specs.Parts.{targets_in}
use Rattle.rst_read.proofs.Chains.{with_front}
use Rattle.rst_read.proofs.Lists.{more_by}
use Rattle.rst_statement.proofs.Lists.{of_targets}
use Rattle.rst_statement.proofs.targets.+targets.Given as goal

abbrev pub decreases-read_target : goal.decreases-read_target
decreases-read_target l = 4 * l.limit

abbrev pub decreases-target_in : goal.decreases-target_in
decreases-target_in l = 4 * l.below + 3

abbrev pub decreases-join_of : goal.decreases-join_of
decreases-join_of l = 4 * l.below + 2

abbrev pub decreases-targets_in : goal.decreases-targets_in
decreases-targets_in l = 4 * l.below + 1

-- what is left to read gives what all gives
abbrev pub invariant-targets_in-loop : goal.invariant-targets_in-loop
invariant-targets_in-loop l = record {
  reads : with_front of_targets (plain_targets l.all.targets.items) (more_by of_targets (target_reader l.below) (l.turns - l.counter) l.rest) ≡ targets_in (target_reader l.below) l.symbols;
  within : l.all.depth ≤ l.below;
}
