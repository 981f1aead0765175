use Rattle.rst_tree.proofs.Rows.{plain-Repeat}
use Rattle.rst_read.proofs.trees.repeated.Goals as goal

pub returns : goal.returns
returns c = plain-Repeat c.args.count c.args.parts
