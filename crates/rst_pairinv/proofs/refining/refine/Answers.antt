use Rattle.std.proofs.Common.{◌∙◌}
use Rattle.rst_pairinv.specs.Answers.{blocked_in, journal_in}
use Rattle.rst_pairinv.proofs.Exact.{exact_behind, work_behind}
use Rattle.rst_pairinv.proofs.refining.refine.Goals as goal

pub returns-then-len-left-clause-work : goal.returns-then-len-left-clause-work
returns-then-len-left-clause-work c =
    work_behind c.args.pair.now c.args.equal.now c.turns.so_far (journal_in c.spent.result) c.turns.invariant.at c.turns.invariant.equal
    c.spent.ensures.journal

pub returns-in-Some-clause-work : goal.returns-in-Some-clause-work
returns-in-Some-clause-work c =
    work_behind c.args.pair.now c.args.equal.now c.round.new.so_far (journal_in c.done.result) c.in_ok-log.ensures.at
    (c.in_ok-log.ensures.equal ∙ c.turns.invariant.equal) c.done.ensures.journal

pub returns-in-Some-clause-exact : goal.returns-in-Some-clause-exact
returns-in-Some-clause-exact c done =
    let refutes = rw c.in-Some.is at c.in_ok-log.ensures.refutes in
    exact_behind c.args.pair.now c.args.equal.now c.round.new.so_far (blocked_in c.done.result) _ c.are_sides.ensures c.requires.marked
    c.in_ok-log.ensures.at (c.in_ok-log.ensures.equal ∙ c.turns.invariant.equal) c.done.ensures.blocked refutes
