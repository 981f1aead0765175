use Rattle.rst_settled.proofs.Settling.{in_order}
use Rattle.rst_settled.proofs.laws.designs_in_order_settle.Goals as goal

pub returns : goal.returns
returns c flat state input orderly = in_order flat state input orderly
