use Rattle.std.proofs.Common.{arith, ◌<◌}
use Rattle.rst_clause.proofs.clause_domain.ClauseDomain.free_bit.Goals as goal

pub overflow_add-i : goal.overflow_add-i
overflow_add-i c =
    let few : c.args.self.now.clauses.vars < 2147483648 = c.args.self.now.clauses.few in
    let below : c.args.self.now.clauses.free < c.args.self.now.clauses.vars = c.args.self.now.clauses.below in
    omega arith

pub of_variable-requires-clause-fits : goal.of_variable-requires-clause-fits
of_variable-requires-clause-fits c =
    let few : c.args.self.now.clauses.vars < 2147483648 = c.args.self.now.clauses.few in
    let below : c.args.self.now.clauses.free < c.args.self.now.clauses.vars = c.args.self.now.clauses.below in
    omega arith

pub returns-clause-held : goal.returns-clause-held
returns-clause-held c =
    let below : c.args.self.now.clauses.free < c.args.self.now.clauses.vars = c.args.self.now.clauses.below in
    rw c.of_variable.ensures (omega arith, omega arith)
