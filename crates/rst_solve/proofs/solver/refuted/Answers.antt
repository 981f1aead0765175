use Rattle.std.proofs.Common.{arith}
use Rattle.rst_clause.specs.Passes.{clauses_of}
use Rattle.rst_clause.specs.Propagation.{IsRefutation}
use Rattle.rst_solve.proofs.Ends.{whole_path}
use Rattle.rst_solve.proofs.solver.refuted.Goals as goal

pub returns : goal.returns
returns c =
    let r : IsRefutation c.args.clauses.now.vars (clauses_of c.args.clauses.now) c.args.log = c.in_ok-refutes_by.ensures.0 c.if-not-branch.false in
    let w = whole_path c.args.clauses.now.free c.args.clauses.now.vars (clauses_of c.args.clauses.now) c.args.log c.args.left c.in_ok-paths.paths.items r (omega arith)
    c.in_ok-paths.ensures in
    (r, c.requires, w.0, w.1)
