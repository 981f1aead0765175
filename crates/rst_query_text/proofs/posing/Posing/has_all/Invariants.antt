use Rattle.std.proofs.Common.{take}
use Rattle.rst_clause.specs.Literals.{AreLiterals}
use Rattle.rst_query_text.proofs.posing.Posing.has_all.Given as goal

abbrev pub invariant-loop-i : goal.invariant-loop-i
invariant-loop-i l = AreLiterals l.self.domain.clauses.vars (take l.i l.lits)
