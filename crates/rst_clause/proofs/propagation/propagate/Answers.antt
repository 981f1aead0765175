use Rattle.std.proofs.Common.{arith, ◌≤◌, ◌∙◌, ℕ, length, subst, Option}
use Rattle.rst_clause.specs.Queue.{LooksAtAll}
use Rattle.rst_clause.proofs.Queueing.{Grows-join, Grows-longer, quiet_at_start}
use Rattle.rst_clause.proofs.propagation.propagate.Goals as goal

pub returns-in-Some : goal.returns-in-Some
returns-in-Some c =
    let w = subst (λ (o : Option ℕ). LooksAtAll c.args.clauses.now (λ i. c.args.since ≤ i) c.args.trail.now c.look_from.new.trail o) c.in-Some.is c.in_ok-found.ensures in
    record { grows = w.grows; vars = w.vars; outcome = w.outcome }

pub look_along-requires-clause-from : goal.look_along-requires-clause-from
look_along-requires-clause-from c =
    let longer : length c.args.trail.now.lits ≤ length c.look_from.new.trail.lits = Grows-longer c.args.clauses.now c.args.trail.now c.look_from.new.trail c.in_ok-found.ensures.grows in
    omega (arith, c.requires.from, longer)

pub look_along-requires-clause-quiet : goal.look_along-requires-clause-quiet
look_along-requires-clause-quiet c =
    let w = subst (λ (o : Option ℕ). LooksAtAll c.args.clauses.now (λ i. c.args.since ≤ i) c.args.trail.now c.look_from.new.trail o) c.in_default.is c.in_ok-found.ensures in
    quiet_at_start c.args.clauses.now c.args.from c.args.since c.args.trail.now c.look_from.new.trail c.requires.from c.requires.complete w

pub returns : goal.returns
returns c =
    let p = c.in_ok-rest.ensures in
    record {
      grows = Grows-join c.args.clauses.now c.args.trail.now c.look_from.new.trail c.look_along.new.trail c.in_ok-found.ensures.grows p.grows;
      vars = p.vars ∙ c.in_ok-found.ensures.vars;
      outcome = p.outcome;
    }
