-- What the solver answers of clauses, it answers of what is posed.
use Rattle.std.proofs.Common.{◌≡◌, ℕ, List, ◌++◌, sym, subst}
use Rattle.rst_value.specs.declared.tern.Tern.{Tern}
use Rattle.rst_clause.specs.declared.clauses.Clauses.{Clauses}
use Rattle.rst_clause.specs.Results.{largest}
use Rattle.rst_clause.proofs.Ranges.{largest_of}
use Rattle.rst_pair.specs.declared.query.Query.TheVariants.{LandFree}
use Rattle.rst_pair.specs.Sides.{Sides}
use Rattle.rst_pair.specs.Fronts.{Front'}
use Rattle.rst_pose.specs.Posed.{Posed, posed}
use Rattle.rst_pose.specs.Posing.{posed_of}
use Rattle.rst_solve.specs.declared.solver.Answer.{Answer}
use Rattle.rst_solve.specs.Answers.{AnswersTo, Answers}
use Rattle.rst_landing.specs.Models.{AnswersLand}

pub answers_land :
    (p : Sides) (f : Front') (pattern : List (List Tern)) (left : ℕ) (clauses : Clauses) (answer : Answer)
    → posed_of clauses ≡ posed p f (LandFree pattern) → Answers clauses left answer → AnswersLand p f pattern left answer
answers_land p f pattern left clauses answer same h =
    let vars : clauses.vars ≡ largest clauses.fixed = sym (largest_of clauses.free clauses.vars clauses.fixed clauses.defined) in
    subst (λ (q : Posed). AnswersTo q.free (largest q.fixed) (q.fixed ++ q.required) left answer) same
    (subst (λ (n : ℕ). AnswersTo clauses.free n (clauses.fixed ++ clauses.required) left answer) vars h)
