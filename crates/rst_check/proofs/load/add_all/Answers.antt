use Rattle.std.proofs.Common.{◌+◌, ◌∙◌, ◌<◌, ◌++◌, subst, arith, take, length, List, ℤ, Bool}
use Rattle.rst_clause.specs.Propagation.{Closes}
use Rattle.rst_watch.specs.Choices.{Learns}
use Rattle.rst_check.proofs.Replays.{learned_closes, learned_all, loaded_more, loaded_among, closes_among}
use Rattle.rst_check.proofs.load.add_all.Goals as goal

pub returns-then-branch-clause-closes : goal.returns-then-branch-clause-closes
returns-then-branch-clause-closes c = λ e.
    let lt : c.loop-i.i < length c.args.clauses.now = omega (arith, c.loop-i-test.true, c.len-i-end.ensures) in
    let learned = subst (λ (b : Bool). Learns c.loop-i.p.clauses c.learn.new.self.clauses c.loop-i.p.trail c.learn.new.self.trail c.get.result.now b) c.if-branch.true c.in_ok-learn.ensures.learns in
    closes_among (c.args.p.now.clauses ++ take (c.loop-i.i + 1) c.args.clauses.now) (c.args.p.now.clauses ++ c.args.clauses.now) (loaded_among c.args.p.now.clauses c.args.clauses.now (c.loop-i.i + 1))
    (subst (λ (z : List (List ℤ)). Closes z) (loaded_more c.args.p.now.clauses c.args.clauses.now c.loop-i.p.clauses c.loop-i.i c.get.result.now lt c.get.ensures c.loop-i.invariant.0)
    (learned_closes c.loop-i.p.clauses c.get.result.now c.loop-i.p.trail.lits c.loop-i.invariant.1 learned.0))

pub loop-i-preserved : goal.loop-i-preserved
loop-i-preserved c =
    let lt : c.loop-i.i < length c.args.clauses.now = omega (arith, c.loop-i-test.true, c.len-i-end.ensures) in
    let learned = subst (λ (b : Bool). Learns c.loop-i.p.clauses c.learn.new.self.clauses c.loop-i.p.trail c.learn.new.self.trail c.get.result.now b) c.if-branch.false c.in_ok-learn.ensures.learns in (
      learned.0 ∙ loaded_more c.args.p.now.clauses c.args.clauses.now c.loop-i.p.clauses c.loop-i.i c.get.result.now lt c.get.ensures c.loop-i.invariant.0,
      learned_all c.loop-i.p.clauses c.learn.new.self.clauses c.get.result.now c.loop-i.p.trail c.learn.new.self.trail c.loop-i.invariant.1 learned.0 learned.1,
      c.learn.ensures.vars ∙ c.loop-i.invariant.2,
      c.learn.ensures.floors,
    )
