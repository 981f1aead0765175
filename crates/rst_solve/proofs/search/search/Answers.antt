use Rattle.std.proofs.Common.{◌≡◌, ◌∙◌, ◌+◌, ◌<◌, ◌^◌, suc, [], length, ap, subst, arith}
use Rattle.std.specs.Prelude.{IfNone}
use Rattle.rst_solve.specs.Choices.{AllKnownTo}
use Rattle.rst_solve.specs.Records.{IsClosedBelow}
use Rattle.rst_solve.proofs.Ends.{closed_refutes, open_few}
use Rattle.rst_solve.proofs.search.search.Goals as goal

pub found-requires-clause-known : goal.found-requires-clause-known
found-requires-clause-known c = c.in_ok-reached.ensures.known c.if-reached.true

pub found-requires-then-reached-2-clause-known : goal.found-requires-then-reached-2-clause-known
found-requires-then-reached-2-clause-known c = c.in_ok-reached-2.ensures.known c.if-reached-2.true

pub returns-in-None : goal.returns-in-None
returns-in-None c =
    let closed = subst (λ z. IfNone z (IsClosedBelow c.args.q.now.free c.args.q.now.vars c.args.q.now.all c.climb.new.t × (c.climb.new.t.levels ≡ []))) c.in-None.is c.in_ok-level.ensures.closed in
    let count : length c.climb.new.t.paths.items ≡ length c.reach.new.t.paths.items + 1 = ap (λ z. length z.items) c.in_ok-level.ensures.paths ∙ c.in_ok-close.ensures.count in
    let before : length c.reach.new.t.paths.items ≡ c.loop.counter = ap (λ z. length z.items) c.in_ok-reached.ensures.paths ∙ c.loop.invariant.count in
    let r = closed_refutes c.args.q.now.free c.args.q.now.vars c.args.q.now.all c.climb.new.t closed.0 closed.1 in
    (r.0, r.1, omega arith, (closed.0.paths, omega arith))

pub loop-preserved : goal.loop-preserved
loop-preserved c =
    let count : length c.climb.new.t.paths.items ≡ length c.reach.new.t.paths.items + 1 = ap (λ z. length z.items) c.in_ok-level.ensures.paths ∙ c.in_ok-close.ensures.count in
    let before : length c.reach.new.t.paths.items ≡ c.loop.counter = ap (λ z. length z.items) c.in_ok-reached.ensures.paths ∙ c.loop.invariant.count in
    let after : length c.turn.new.t.paths.items ≡ length c.climb.new.t.paths.items = ap (λ z. length z.items) c.in_ok-complete-2.ensures.paths in
    let n : suc c.in-Some.level.bit ≡ c.in-Some.level.bit + 1 = omega arith in
    record {
      below = c.in_ok-complete-2.ensures.below;
      complete = c.in_ok-complete-2.ensures.complete;
      conflict = c.in_ok-complete-2.ensures.conflict;
      next = omega arith;
      known = subst (λ m. AllKnownTo c.turn.new.t.trail.lits m) n c.in_ok-complete-2.ensures.known;
      count = omega arith;
    }

pub returns : goal.returns
returns c =
    let before : length c.reach-2.new.t.paths.items ≡ c.loop.counter = ap (λ z. length z.items) c.in_ok-reached-2.ensures.paths ∙ c.loop.invariant.count in
    let few : length c.reach-2.new.t.paths.items < 2 ^ c.args.q.now.free = open_few c.args.q.now.free c.args.q.now.vars c.args.q.now.all c.reach-2.new.t c.in_ok-reached-2.ensures.below in
    let is : length c.reach-2.new.t.paths.items ≡ c.args.left = omega arith in
    (is, subst (λ m. m < 2 ^ c.args.q.now.free) is few, (c.in_ok-reached-2.ensures.below.paths, omega arith))
