use Rattle.rst_width.proofs.TableRows.{own-table}
use Rattle.rst_width.proofs.laws.own_shapes_by_the_table.Goals as goal

pub returns : goal.returns
returns c = own-table
