use Rattle.std.proofs.Common.{◌≡◌, ◌≤◌, ◌+◌, ◌-◌, ◌*◌, max, length}
use Rattle.rst_tree.specs.Statements.{plain_stmts, plain_arms}
use Rattle.rst_grammar.specs.Reading.{readers}
use Rattle.rst_grammar.specs.ReadStatement.{stmt_reader, until_end, arms_in}
use Rattle.rst_read.proofs.Chains.{with_front}
use Rattle.rst_statement.proofs.Until.{of_statements, of_arms}
use Rattle.rst_statement.proofs.statements.+statements.Given as goal

abbrev pub decreases-read_statement : goal.decreases-read_statement
decreases-read_statement l = 8 * l.limit

abbrev pub decreases-stmt_in : goal.decreases-stmt_in
decreases-stmt_in l = 8 * l.below + 7

abbrev pub decreases-if_in : goal.decreases-if_in
decreases-if_in l = 8 * l.below + 6

abbrev pub decreases-else_in : goal.decreases-else_in
decreases-else_in l = 8 * l.below + 5

abbrev pub decreases-block_in : goal.decreases-block_in
decreases-block_in l = 8 * l.below + 6

abbrev pub decreases-until_end : goal.decreases-until_end
decreases-until_end l = 8 * l.below + 5

abbrev pub decreases-case_in : goal.decreases-case_in
decreases-case_in l = 8 * l.below + 6

abbrev pub decreases-some_arms : goal.decreases-some_arms
decreases-some_arms l = 8 * l.below + 5

abbrev pub decreases-arms_in : goal.decreases-arms_in
decreases-arms_in l = 8 * l.below + 4

abbrev pub decreases-arm_in : goal.decreases-arm_in
decreases-arm_in l = 8 * l.below + 3

abbrev pub decreases-labelled_in : goal.decreases-labelled_in
decreases-labelled_in l = 8 * l.below + 2

abbrev pub decreases-default_in : goal.decreases-default_in
decreases-default_in l = 8 * l.below + 2

-- what is left to read gives what all gives
abbrev pub invariant-until_end-loop : goal.invariant-until_end-loop
invariant-until_end-loop l = record {
  reads : with_front of_statements (plain_stmts l.all.stmts.items) (until_end (stmt_reader l.below) (l.turns - l.counter) l.rest) ≡ until_end (stmt_reader l.below) (length l.fn.rest) l.fn.rest;
  within : l.all.depth ≤ l.below;
}

abbrev pub invariant-arms_in-loop : goal.invariant-arms_in-loop
invariant-arms_in-loop l = record {
  reads : with_front of_arms (plain_arms l.all.arms.items) (arms_in (readers l.below) (stmt_reader l.below) l.wild (l.turns - l.counter) l.most_defaults l.rest) ≡ arms_in (readers l.below) (stmt_reader l.below) l.wild (length l.fn.rest) 1 l.fn.rest;
  within : l.all.depth ≤ max l.below 1;
}
