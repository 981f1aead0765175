-- What a search answers.
use Rattle.std.specs.Prelude.{◌≡◌, ◌≢◌, ℕ, suc, ◌^◌, ◌<◌, ◌≤◌, List, ℤ, [], length, slice_index_or}
use Rattle.rst_value.specs.declared.tern.Tern.{Tern}
use Rattle.rst_clause.specs.declared.clauses.Clauses.{Clauses}
use Rattle.rst_clause.specs.Passes.{clauses_of}
use Rattle.rst_clause.specs.Propagation.{IsRefutation}
use Rattle.rst_clause.specs.Paths.{ArePaths}
use Rattle.rst_clause.specs.Solutions.{IsSolution}
use Rattle.rst_solve.specs.declared.solver.Answer.{Answer}
use Rattle.rst_solve.specs.declared.solver.Answer.TheVariants.{Model, Refuted, Spent}

-- only the last clause of the log is empty
abbrev pub EndsEmptyAlone : List (List ℤ) → Type 0
EndsEmptyAlone log = (i : ℕ) → suc i < length log → slice_index_or log i [] ≢ []

-- at most so many paths, each tight and without a solution, no two of which meet
abbrev pub HasPaths : ℕ → List (List ℤ) → ℕ → List (List Tern) → Type 0
HasPaths free clauses left paths = ArePaths free clauses paths × (length paths ≤ left)

-- A model's bits solve; a refutation has a path and a log that passes, of which only the last clause is empty;
-- a spent search has exactly as many paths as allowed, fewer than there are choices of the free bits.
abbrev pub AnswersTo : ℕ → ℕ → List (List ℤ) → ℕ → Answer → Type 0
AnswersTo free vars clauses left (Model bits paths) = IsSolution free clauses bits × HasPaths free clauses left paths.items
AnswersTo free vars clauses left (Refuted log paths) =
    IsRefutation vars clauses log × EndsEmptyAlone log × (0 < length paths.items) × HasPaths free clauses left paths.items
AnswersTo free vars clauses left (Spent paths) = (length paths.items ≡ left) × (left < 2 ^ free) × HasPaths free clauses left paths.items

abbrev pub Answers : Clauses → ℕ → Answer → Type 0
Answers clauses left answer = AnswersTo clauses.free clauses.vars (clauses_of clauses) left answer
