use Rattle.std.proofs.Common.{arith, ◌<◌, ◌≤◌, ◌+◌, inl, inr, subst, Bool}
use Rattle.std.proofs.lemmas.Bool.{cases_lt}
use Rattle.rst_clause.specs.Queue.{LooksAt}
use Rattle.rst_clause.proofs.Queueing.{looks_start, looks_false, looks_more}
use Rattle.rst_clause.proofs.propagation.look_from.Goals as goal

pub loop-i-init : goal.loop-i-init
loop-i-init c = looks_start c.args.clauses.now (λ j. (c.args.since ≤ j) × (j < c.args.since)) c.args.trail.now (λ j h. absurd (omega (arith, h.0, h.1)))

pub returns-then-is_false : goal.returns-then-is_false
returns-then-is_false c =
    looks_false c.args.clauses.now (λ j. (c.args.since ≤ j) × (j < c.loop-i.i)) (λ j. c.args.since ≤ j) c.args.trail.now c.loop-i.trail c.look.new.trail c.loop-i.i c.loop-i.invariant
    (subst (λ (b : Bool). LooksAt c.args.clauses.now c.loop-i.i c.loop-i.trail c.look.new.trail b) c.if-is_false.true c.in_ok-is_false.ensures)

pub loop-i-preserved : goal.loop-i-preserved
loop-i-preserved c =
    looks_more c.args.clauses.now (λ j. (c.args.since ≤ j) × (j < c.loop-i.i)) (λ j. (c.args.since ≤ j) × (j < c.loop-i.i + 1)) c.args.trail.now c.loop-i.trail c.look.new.trail c.loop-i.i c.loop-i.invariant
    (subst (λ (b : Bool). LooksAt c.args.clauses.now c.loop-i.i c.loop-i.trail c.look.new.trail b) c.if-is_false.false c.in_ok-is_false.ensures)
    (λ j h. elim (cases_lt j c.loop-i.i) [ inl low ↦ inl (h.0, low) | inr le ↦ inr (omega (arith, h.1)) ])
