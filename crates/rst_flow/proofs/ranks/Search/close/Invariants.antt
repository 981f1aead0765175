use Rattle.std.proofs.Common.{length}
use Rattle.rst_flow.proofs.ranks.Search.close.Given as goal

abbrev pub decreases-loop-member : goal.decreases-loop-member
decreases-loop-member l = length l.self.group.items
