use Rattle.rst_clause.specs.Results.{largest}
use Rattle.rst_pose.specs.Posed.{posed}
use Rattle.rst_query_laws.proofs.Starts.{IsExact}
use Rattle.rst_query_laws.proofs.Exact.{posed_exact}
use Rattle.rst_query_laws.proofs.Solutions.{solutions_are}
use Rattle.rst_query_laws.proofs.laws.posed_queries.Goals as goal

pub returns-clause-formed : goal.returns-clause-formed
returns-clause-formed c p f query about =
    let x : IsExact p f query = posed_exact p f query about in (largest (posed p f query).fixed, x.ready, x.held)

pub returns-clause-each : goal.returns-clause-each
returns-clause-each c p f query bits v about count begins s =
    let x : IsExact p f query = posed_exact p f query about in x.exact bits v count begins s

pub returns-clause-solutions : goal.returns-clause-solutions
returns-clause-solutions c p f query bits about = solutions_are p f query bits about
