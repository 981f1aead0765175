use Rattle.rst_tree.proofs.Rows.{plain_stmt-Case}
use Rattle.rst_statement.proofs.blocks.case_of.Goals as goal

pub returns : goal.returns
returns c = plain_stmt-Case (record { wild = c.args.wild; selector = c.args.selector; arms = c.args.arms })
