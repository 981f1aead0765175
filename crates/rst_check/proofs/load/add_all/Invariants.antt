use Rattle.std.proofs.Common.{◌≡◌, ◌++◌, [], take}
use Rattle.rst_clause.specs.Propagation.{AllDerived}
use Rattle.rst_check.proofs.load.add_all.Given as goal

abbrev pub invariant-loop-i : goal.invariant-loop-i
invariant-loop-i l =
    (l.p.clauses ≡ l.initial.p.clauses ++ take l.i l.clauses) × AllDerived l.p.clauses l.p.trail.lits × (l.p.trail.vars ≡ l.initial.p.trail.vars) × (l.p.floors ≡ [])
