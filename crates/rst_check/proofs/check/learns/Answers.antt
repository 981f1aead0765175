use Rattle.std.proofs.Common.{subst, sym, List, ℤ, ℕ, Option, Some, Bool}
use Rattle.rst_clause.specs.Propagation.{AllDerived, Closes}
use Rattle.rst_clause.specs.Queue.{Propagates}
use Rattle.rst_clause.proofs.Grown.{grown_derived}
use Rattle.rst_watch.specs.Choices.{Learns}
use Rattle.rst_check.proofs.Replays.{learned_closes, learned_all, found_closes}
use Rattle.rst_check.proofs.check.learns.Goals as goal

pub returns-then-branch-clause-closes : goal.returns-then-branch-clause-closes
returns-then-branch-clause-closes c = λ e.
    let learned = subst (λ (b : Bool). Learns c.args.p.now.clauses c.learn.new.self.clauses c.args.p.now.trail c.learn.new.self.trail c.args.line.now b) c.if-branch.true c.in_ok-learn.ensures.learns in
    learned_closes c.args.p.now.clauses c.args.line.now c.args.p.now.trail.lits c.requires.implied learned.0

pub returns-in-Some-clause-closes : goal.returns-in-Some-clause-closes
returns-in-Some-clause-closes c = λ e.
    let learned = subst (λ (b : Bool). Learns c.args.p.now.clauses c.learn.new.self.clauses c.args.p.now.trail c.learn.new.self.trail c.args.line.now b) c.if-branch.false c.in_ok-learn.ensures.learns in
    let all : AllDerived c.learn.new.self.clauses c.learn.new.self.trail.lits =
    learned_all c.args.p.now.clauses c.learn.new.self.clauses c.args.line.now c.args.p.now.trail c.learn.new.self.trail c.requires.implied learned.0 learned.1 in
    let p : Propagates c.learn.new.self.clauses c.learn.new.self.trail c.propagate.new.self.trail (Some c.in-Some.field-0) =
    subst (λ (o : Option ℕ). Propagates c.learn.new.self.clauses c.learn.new.self.trail c.propagate.new.self.trail o) c.in-Some.is c.in_ok-found.ensures.propagates in
    subst (λ (z : List (List ℤ)). Closes z) learned.0
    (found_closes c.learn.new.self.clauses c.learn.new.self.trail c.propagate.new.self.trail c.in-Some.field-0 all p.grows p.outcome)

pub returns-in-None-clause-implied : goal.returns-in-None-clause-implied
returns-in-None-clause-implied c = λ e.
    let learned = subst (λ (b : Bool). Learns c.args.p.now.clauses c.learn.new.self.clauses c.args.p.now.trail c.learn.new.self.trail c.args.line.now b) c.if-branch.false c.in_ok-learn.ensures.learns in
    let all : AllDerived c.learn.new.self.clauses c.learn.new.self.trail.lits =
    learned_all c.args.p.now.clauses c.learn.new.self.clauses c.args.line.now c.args.p.now.trail c.learn.new.self.trail c.requires.implied learned.0 learned.1 in
    subst (λ (z : List (List ℤ)). AllDerived z c.propagate.new.self.trail.lits) (sym c.propagate.ensures.clauses)
    (grown_derived c.learn.new.self.clauses c.learn.new.self.clauses c.learn.new.self.trail c.propagate.new.self.trail (λ d h. h) c.in_ok-found.ensures.propagates.grows all)
