use Rattle.std.proofs.Common.{◌∙◌, not, ap}
use Rattle.rst_clause.proofs.Gates.{holds-opposite}
use Rattle.rst_clause.proofs.clause_domain.ClauseDomainDomain.not.Goals as goal

pub returns-clause-law : goal.returns-clause-law
returns-clause-law c world x stands choice begins s =
    rw c.opposite.ensures (holds-opposite choice c.args.a c.requires.held_a.0 ∙ ap not (stands choice begins s))
