use Rattle.std.proofs.Common.{◌≡◌, ◌∙◌, ◌++◌, subst, sym, ap, List, ℤ, ℕ, Option, Some}
use Rattle.rst_clause.specs.Literals.{AreClauses}
use Rattle.rst_clause.specs.Propagation.{AllDerived, Closes}
use Rattle.rst_clause.specs.Queue.{Propagates}
use Rattle.rst_clause.proofs.Extending.{fixed_in_range}
use Rattle.rst_clause.proofs.Grown.{grown_derived}
use Rattle.rst_check.proofs.Replays.{closes_more, found_closes}
use Rattle.rst_check.proofs.load.load.Goals as goal

pub add_all-requires-clause-in_range : goal.add_all-requires-clause-in_range
add_all-requires-clause-in_range c =
    subst (λ n. AreClauses n c.args.clauses.now.fixed) (sym c.requires.vars)
    (fixed_in_range c.args.clauses.now.free c.args.clauses.now.vars c.args.clauses.now.fixed c.args.clauses.now.defined)

pub returns-then-branch-clause-closes : goal.returns-then-branch-clause-closes
returns-then-branch-clause-closes c = λ e.
    closes_more c.args.clauses.now.fixed c.args.clauses.now.required
    (subst (λ (z : List (List ℤ)). Closes (z ++ c.args.clauses.now.fixed)) c.requires.none (c.in_ok-add_all.ensures.closes c.if-branch.true))

pub returns-in-Some-clause-closes : goal.returns-in-Some-clause-closes
returns-in-Some-clause-closes c = λ e.
    let all : c.add_all-2.new.p.clauses ≡ c.args.clauses.now.fixed ++ c.args.clauses.now.required =
    c.in_ok-add_all-2.ensures.clauses c.if-branch-2.false
    ∙ ap (λ (z : List (List ℤ)). z ++ c.args.clauses.now.required) (c.in_ok-add_all.ensures.clauses c.if-branch.false ∙ ap (λ (z : List (List ℤ)). z ++ c.args.clauses.now.fixed) c.requires.none) in
    let p : Propagates c.add_all-2.new.p.clauses c.add_all-2.new.p.trail c.propagate.new.self.trail (Some c.in-Some.field-0) =
    subst (λ (o : Option ℕ). Propagates c.add_all-2.new.p.clauses c.add_all-2.new.p.trail c.propagate.new.self.trail o) c.in-Some.is c.in_ok-found.ensures.propagates in
    subst (λ (z : List (List ℤ)). Closes z) all
    (found_closes c.add_all-2.new.p.clauses c.add_all-2.new.p.trail c.propagate.new.self.trail c.in-Some.field-0 (c.in_ok-add_all-2.ensures.implied c.if-branch-2.false) p.grows p.outcome)

pub returns-in-None-clause-implied : goal.returns-in-None-clause-implied
returns-in-None-clause-implied c = λ e.
    subst (λ (z : List (List ℤ)). AllDerived z c.propagate.new.self.trail.lits) (sym c.propagate.ensures.clauses)
    (grown_derived c.add_all-2.new.p.clauses c.add_all-2.new.p.clauses c.add_all-2.new.p.trail c.propagate.new.self.trail (λ d h. h) c.in_ok-found.ensures.propagates.grows
    (c.in_ok-add_all-2.ensures.implied c.if-branch-2.false))
