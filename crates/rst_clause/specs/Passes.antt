-- A log that refutes a list of clauses.
use Rattle.std.specs.Prelude.{List, ℤ, ◌++◌}
use Rattle.rst_clause.specs.declared.clauses.Clauses.{Clauses}
use Rattle.rst_clause.specs.Propagation.{IsRefutation}

-- all the clauses: those that define variables, then the required ones
abbrev pub clauses_of : Clauses → List (List ℤ)
clauses_of clauses = clauses.fixed ++ clauses.required

-- every literal of the log is in range, each line follows by unit propagation from the clauses and the
-- earlier lines, and the last line is the empty clause
abbrev pub Passes : Clauses → List (List ℤ) → Type 0
Passes clauses log = IsRefutation clauses.vars (clauses_of clauses) log
