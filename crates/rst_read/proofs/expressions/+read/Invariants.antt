use Rattle.std.proofs.Common.{◌≡◌, ◌≤◌, ◌+◌, ◌-◌, ◌*◌}
use Rattle.rst_tree.specs.Trees.{plain, plain_all}
use Rattle.rst_grammar.specs.Reading.{readers, tail_in, binary_in, list_from}
use Rattle.rst_read.proofs.Chains.{with_front}
use Rattle.rst_read.proofs.Lists.{more_by, of_trees}
use Rattle.rst_read.proofs.expressions.+read.Given as goal

abbrev pub decreases-read_expression : goal.decreases-read_expression
decreases-read_expression l = 16 * l.limit

abbrev pub decreases-read_boxed : goal.decreases-read_boxed
decreases-read_boxed l = 16 * l.limit + 1

abbrev pub decreases-operand : goal.decreases-operand
decreases-operand l = 16 * l.limit

abbrev pub decreases-binary : goal.decreases-binary
decreases-binary l = 16 * l.limit

abbrev pub decreases-full_in : goal.decreases-full_in
decreases-full_in l = 16 * l.below + 14

abbrev pub decreases-binary_in : goal.decreases-binary_in
decreases-binary_in l = 16 * l.below + 12

abbrev pub decreases-operand_in : goal.decreases-operand_in
decreases-operand_in l = 16 * l.below + 10

abbrev pub decreases-terminal_in : goal.decreases-terminal_in
decreases-terminal_in l = 16 * l.below + 8

abbrev pub decreases-with_right : goal.decreases-with_right
decreases-with_right l = 16 * l.below + 8

abbrev pub decreases-choice_in : goal.decreases-choice_in
decreases-choice_in l = 16 * l.below + 6

abbrev pub decreases-named_in : goal.decreases-named_in
decreases-named_in l = 16 * l.below + 6

abbrev pub decreases-paren_in : goal.decreases-paren_in
decreases-paren_in l = 16 * l.below + 6

abbrev pub decreases-signed_in : goal.decreases-signed_in
decreases-signed_in l = 16 * l.below + 6

abbrev pub decreases-unsigned_in : goal.decreases-unsigned_in
decreases-unsigned_in l = 16 * l.below + 6

abbrev pub decreases-unary_in : goal.decreases-unary_in
decreases-unary_in l = 16 * l.below + 6

abbrev pub decreases-braces_in : goal.decreases-braces_in
decreases-braces_in l = 16 * l.below + 6

abbrev pub decreases-select_end : goal.decreases-select_end
decreases-select_end l = 16 * l.below + 4

abbrev pub decreases-join_in : goal.decreases-join_in
decreases-join_in l = 16 * l.below + 4

abbrev pub decreases-repeat_in : goal.decreases-repeat_in
decreases-repeat_in l = 16 * l.below + 4

abbrev pub decreases-part_end : goal.decreases-part_end
decreases-part_end l = 16 * l.below + 2

abbrev pub decreases-list_from : goal.decreases-list_from
decreases-list_from l = 16 * l.below + 2

-- what is left to read gives what all gives
abbrev pub invariant-binary_in-loop : goal.invariant-binary_in-loop
invariant-binary_in-loop l = record {
  reads : tail_in (readers l.below) l.below (l.end - l.counter) l.least (plain l.left.tree) l.rest ≡ binary_in (readers l.below) l.below l.least l.symbols;
  within : l.left.depth ≤ l.below + 1;
}

abbrev pub invariant-list_from-loop : goal.invariant-list_from-loop
invariant-list_from-loop l = record {
  reads : with_front of_trees (plain_all l.all.trees.items) (more_by of_trees (readers l.below).full (l.turns - l.counter) l.rest) ≡ list_from (readers l.below) (plain l.fn.first.tree) l.fn.rest;
  within : l.all.depth ≤ l.below;
}
