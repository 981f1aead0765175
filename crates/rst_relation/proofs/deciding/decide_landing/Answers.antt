use Rattle.std.proofs.Common.{◌≡◌, ◌∙◌, ◌++◌, List, length, refl, ap, sym, subst}
use Rattle.rst_pair.specs.Hops.{word_of}
use Rattle.rst_replay.specs.Refutations.{IsRefutedBy}
use Rattle.rst_relation.specs.Decisions.{one_design}
use Rattle.rst_relation.proofs.Marked.{posable, no_split, are_known}
use Rattle.rst_relation.proofs.Landed.{joined_work, signs, refutes_by}
use Rattle.rst_relation.proofs.deciding.decide_landing.Goals as goal

pub lands-requires-clause-posable : goal.lands-requires-clause-posable
lands-requires-clause-posable c =
    posable c.args.gates.now c.args.pattern.now c.args.budget c.args.front c.args.split c.args.journal c.are_sides.ensures c.requires.refined
    c.requires.asked c.requires.budget

pub lands-requires-clause-known : goal.lands-requires-clause-known
lands-requires-clause-known c = are_known c.args.gates.now c.args.pattern.now c.args.front.equal c.requires.refined.marked

pub lands-requires-clause-split : goal.lands-requires-clause-split
lands-requires-clause-split c =
    no_split c.args.gates.now c.args.pattern.now c.args.budget c.args.front c.args.split c.args.journal c.are_sides.ensures c.requires.refined

pub returns-in_ok-join-in-Inside-clause-work : goal.returns-in_ok-join-in-Inside-clause-work
returns-in_ok-join-in-Inside-clause-work c =
    joined_work c.args.gates.now c.args.pattern.now c.args.budget c.args.front c.front.inside.equal c.args.split c.args.journal c.in-Inside.more c.join.new.journal _ c.requires.refined
    (ap (λ g. g.equal) c.front.view_is) (rw c.in-Inside.is at c.in_ok-log.ensures.journal)
    (c.in_ok-join-in-Inside.ensures ∙ ap (λ more. c.args.journal ++ more) c.as_slice.ensures)

pub returns-in_ok-join-in-Inside-clause-signed : goal.returns-in_ok-join-in-Inside-clause-signed
returns-in_ok-join-in-Inside-clause-signed c = λ signed.
    signs c.args.gates.now c.args.pattern.now c.args.budget c.args.front c.args.split c.args.journal c.are_sides.ensures c.requires.refined
    (rw c.in-Inside.is at c.in_ok-log.ensures.inside)

pub returns-in_ok-word-in-Outside-clause-work : goal.returns-in_ok-word-in-Outside-clause-work
returns-in_ok-word-in-Outside-clause-work c =
    let both = joined_work c.args.gates.now c.args.pattern.now c.args.budget c.args.front c.args.front.equal c.args.split c.args.journal c.in-Outside.more c.join-in-Outside.new.journal _
    c.requires.refined refl (rw c.in-Outside.is at c.in_ok-log.ensures.journal)
    (c.in_ok-join-in-Outside.ensures ∙ ap (λ more. c.args.journal ++ more) c.as_slice-in-Outside.ensures) in
    (c.args.front.equal, both.0, both.1)

pub returns-in_ok-word-in-Outside-clause-refuted : goal.returns-in_ok-word-in-Outside-clause-refuted
returns-in_ok-word-in-Outside-clause-refuted c =
    let landed = rw c.in-Outside.is at c.in_ok-log.ensures.outside in
    let hops : c.as_slice-in-Outside-2.result.now ≡ c.args.front.blocked = c.as_slice-in-Outside-2.ensures.value ∙ ap (λ g. g.blocked) c.front.view_is in
    subst (λ word. IsRefutedBy (one_design c.args.gates.now) c.args.pattern.now c.in-Outside.fill c.in-Outside.a c.in-Outside.b word)
    (sym (c.in_ok-word-in-Outside.ensures ∙ ap (λ list. word_of list c.in-Outside.cube) hops))
    (refutes_by c.args.gates.now c.args.pattern.now c.args.budget c.args.front c.args.split c.args.journal c.are_sides.ensures c.requires.refined
    c.in-Outside.a c.in-Outside.b c.in-Outside.fill c.in-Outside.cube landed)

pub returns-in_ok-join-in-Spent-clause-work : goal.returns-in_ok-join-in-Spent-clause-work
returns-in_ok-join-in-Spent-clause-work c =
    joined_work c.args.gates.now c.args.pattern.now c.args.budget c.args.front c.front.inside.equal c.args.split c.args.journal c.in-Spent.more c.join-in-Spent.new.journal _ c.requires.refined
    (ap (λ g. g.equal) c.front.view_is) (rw c.in-Spent.is at c.in_ok-log.ensures.journal)
    (c.in_ok-join-in-Spent.ensures ∙ ap (λ more. c.args.journal ++ more) c.as_slice-in-Spent.ensures)
