-- A log that refutes the clauses of Split says that no pair splits.
use Rattle.std.proofs.Common.{◌≡◌, ℤ, List, ◌++◌, sym, subst}
use Rattle.std.proofs.Math.Logic.{∥∥₁_elim}
use Rattle.rst_clause.specs.declared.clauses.Clauses.{Clauses}
use Rattle.rst_clause.specs.Propagation.{IsRefutation}
use Rattle.rst_clause.specs.Solutions.{IsSolution}
use Rattle.rst_clause.proofs.Sound.{refutation_refutes}
use Rattle.rst_pair.specs.declared.query.Query.TheVariants.{Split}
use Rattle.rst_pair.specs.Sides.{Sides}
use Rattle.rst_pair.specs.Fronts.{Front'}
use Rattle.rst_pose.specs.Posed.{Posed, posed}
use Rattle.rst_pose.specs.Posing.{posed_of}
use Rattle.rst_pose.specs.Works.{HasNoCase}
use Rattle.rst_query_laws.specs.Conditions.{IsAbout}
use Rattle.rst_query_laws.proofs.Solutions.{solutions_are}

pub no_split :
    (p : Sides) (f : Front') (clauses : Clauses) (log : List (List ℤ)) → IsAbout p f Split → posed_of clauses ≡ posed p f Split
    → IsRefutation clauses.vars (clauses.fixed ++ clauses.required) log → HasNoCase p f Split
no_split p f clauses log about same refutation bits case =
    let posed_solution : IsSolution (posed p f Split).free ((posed p f Split).fixed ++ (posed p f Split).required) bits = (solutions_are p f Split bits about).1 case in
    let solution = subst (λ (q : Posed). IsSolution q.free (q.fixed ++ q.required) bits) (sym same) posed_solution in
    ∥∥₁_elim solution.1 (λ x y. absurd x) (λ w. refutation_refutes clauses.vars (clauses.fixed ++ clauses.required) log refutation w.0 w.2)
