use Rattle.rst_clause.proofs.Ranges.{AreClauses-append}
use Rattle.rst_clause.proofs.Extending.{fixed_in_range}
use Rattle.rst_clause.proofs.clauses.Clauses.all.Goals as goal

pub returns-in_err-add_all-clause-in_range : goal.returns-in_err-add_all-clause-in_range
returns-in_err-add_all-clause-in_range c =
    AreClauses-append c.args.self.now.vars c.args.self.now.fixed c.args.self.now.required
    (fixed_in_range c.args.self.now.free c.args.self.now.vars c.args.self.now.fixed c.args.self.now.defined) c.args.self.now.in_range

pub returns-in_err-add_all-2-clause-in_range : goal.returns-in_err-add_all-2-clause-in_range
returns-in_err-add_all-2-clause-in_range c =
    AreClauses-append c.args.self.now.vars c.args.self.now.fixed c.args.self.now.required
    (fixed_in_range c.args.self.now.free c.args.self.now.vars c.args.self.now.fixed c.args.self.now.defined) c.args.self.now.in_range

pub returns-clause-in_range : goal.returns-clause-in_range
returns-clause-in_range c =
    AreClauses-append c.args.self.now.vars c.args.self.now.fixed c.args.self.now.required
    (fixed_in_range c.args.self.now.free c.args.self.now.vars c.args.self.now.fixed c.args.self.now.defined) c.args.self.now.in_range
