-- What the search answers of the posed clauses, by what is posed.
use Rattle.std.proofs.Common.{◌≡◌, ℕ, ℤ, Bool, List, ◌++◌, Vec, Global, sym, subst}
use Rattle.rst_value.specs.declared.tern.Tern.{Tern}
use Rattle.rst_clause.specs.declared.clauses.Clauses.{Clauses}
use Rattle.rst_clause.specs.Results.{largest}
use Rattle.rst_clause.proofs.Ranges.{largest_of}
use Rattle.rst_clause.specs.Paths.{ArePaths}
use Rattle.rst_clause.specs.Solutions.{IsSolution}
use Rattle.rst_solve.specs.declared.solver.Answer.{Answer}
use Rattle.rst_solve.specs.declared.solver.Answer.TheVariants.{Model, Refuted, Spent}
use Rattle.rst_solve.specs.Answers.{AnswersTo, Answers}
use Rattle.rst_pair.specs.declared.query.Query.TheVariants.{Split}
use Rattle.rst_pair.specs.Sides.{Sides}
use Rattle.rst_pair.specs.Fronts.{Front'}
use Rattle.rst_pose.specs.Posed.{Posed, posed}
use Rattle.rst_pose.specs.Posing.{posed_of}
use Rattle.rst_pairinv.specs.Turns.{AnswersSplit, clauses_posed}

pub answers_split :
    (p : Sides) (f : Front') (clauses : Clauses) (left : ℕ) (answer : Answer) → posed_of clauses ≡ posed p f Split → Answers clauses left answer
    → AnswersSplit p f left answer
answers_split p f clauses left answer e h =
    let top : largest clauses.fixed ≡ clauses.vars = largest_of clauses.free clauses.vars clauses.fixed clauses.defined in
    subst (λ (q : Posed). AnswersTo q.free (largest q.fixed) (q.fixed ++ q.required) left answer) e
    (subst (λ (v : ℕ). AnswersTo clauses.free v (clauses.fixed ++ clauses.required) left answer) (sym top) h)

abbrev SolvesSplit : Sides → Front' → List Bool → Type 0
SolvesSplit p f bits = IsSolution (posed p f Split).free (clauses_posed p f) bits

abbrev PathsSplit : Sides → Front' → List (List Tern) → Type 0
PathsSplit p f paths = ArePaths (posed p f Split).free (clauses_posed p f) paths

pub solved : (p : Sides) (f : Front') (left : ℕ) (answer : Answer) (bits : List Bool) (paths : Vec (List Tern) Global)
    → answer ≡ Model bits paths → AnswersSplit p f left answer → SolvesSplit p f bits × PathsSplit p f paths.items
solved p f left answer bits paths e h =
    let a = subst (λ (z : Answer). AnswersSplit p f left z) e h in (a.0, a.1.0)

pub refuted : (p : Sides) (f : Front') (left : ℕ) (answer : Answer) (log : List (List ℤ)) (paths : Vec (List Tern) Global)
    → answer ≡ Refuted log paths → AnswersSplit p f left answer → PathsSplit p f paths.items
refuted p f left answer log paths e h =
    let a = subst (λ (z : Answer). AnswersSplit p f left z) e h in a.3.0

pub spent : (p : Sides) (f : Front') (left : ℕ) (answer : Answer) (paths : Vec (List Tern) Global)
    → answer ≡ Spent paths → AnswersSplit p f left answer → PathsSplit p f paths.items
spent p f left answer paths e h =
    let a = subst (λ (z : Answer). AnswersSplit p f left z) e h in a.2.0

pub same_solution : (p : Sides) (f g : Front') (bits xs : List Bool) → g ≡ f → xs ≡ bits → SolvesSplit p f bits → SolvesSplit p g xs
same_solution p f g bits xs e is h =
    subst (λ (z : Front'). SolvesSplit p z xs) (sym e) (subst (λ (z : List Bool). SolvesSplit p f z) (sym is) h)
