use Rattle.std.proofs.Common.{◌≡◌, take, sym, subst, arith, rules}
use Rattle.rst_clause.specs.Passes.{clauses_of}
use Rattle.rst_clause.specs.Solutions.{IsSolution}
use Rattle.rst_solve.proofs.Ends.{values_solve}
use Rattle.rst_solve.proofs.solver.model.Goals as goal

pub returns : goal.returns
returns c =
    let e : c.in_ok-from_slice.field-0 ≡ take c.args.clauses.now.free c.args.values.now = search rules in
    subst (λ z. IsSolution c.args.clauses.now.free (clauses_of c.args.clauses.now) z) (sym e)
    (values_solve c.args.clauses.now.free c.args.clauses.now.fixed c.args.clauses.now.required c.args.values.now (omega arith)
    (c.solves.ensures c.if-not-solves.false) (c.solves-else-not-solves.ensures c.if-not-solves-2.false))
