use Rattle.std.proofs.Common.{arith}
use Rattle.rst_solve.proofs.Models.{posed_solution}
use Rattle.rst_solve.proofs.search.found.Goals as goal

pub returns : goal.returns
returns c = (
  posed_solution c.args.q.now.free c.args.q.now.vars c.args.q.now.all c.args.t.trail.lits c.in_ok-bits.ensures.consistent c.requires.complete c.args.q.now.in_range
      c.requires.known c.args.q.now.posed c.in_ok-bits.bits c.in_ok-bits.ensures.right,
  (c.requires.below.paths, omega arith),
)
