use Rattle.rst_pair.specs.Hops.{freed_aim}
use Rattle.rst_widen.proofs.Aiming.{aim_fits, freed_aims}
use Rattle.rst_widen.proofs.Widened.{answer-right, answer-refines, answer-passes, answer-widest}
use Rattle.rst_widen.proofs.widen.widen_freed.Goals as goal

pub widen-requires-clause-fits : goal.widen-requires-clause-fits
widen-requires-clause-fits c =
    aim_fits c.args.pair.now c.freed_aim_of-aim.result (freed_aim c.args.front.now.blocked c.args.front.now.freed c.args.hop.next) c.freed_aim_of-aim.ensures
    (freed_aims c.args.pair.now c.args.front.now.blocked c.args.front.now.freed c.args.hop.next c.requires.front.blocked c.requires.front.freed c.requires.hop.next)

pub returns-clause-right : goal.returns-clause-right
returns-clause-right c =
    let answer = rw (c.freed_aim_of-aim.ensures, c.as_slice.ensures, c.as_slice-2.ensures) at c.in_ok-hop.ensures in
    answer-right c.args.pair.now (freed_aim c.args.front.now.blocked c.args.front.now.freed c.args.hop.next) c.args.hop.input c.args.hop.cube c.in_ok-hop.field-0 answer c.requires.right

pub returns-clause-contains : goal.returns-clause-contains
returns-clause-contains c =
    let answer = rw (c.freed_aim_of-aim.ensures, c.as_slice.ensures, c.as_slice-2.ensures) at c.in_ok-hop.ensures in
    answer-refines c.args.pair.now (freed_aim c.args.front.now.blocked c.args.front.now.freed c.args.hop.next) c.args.hop.input c.args.hop.cube c.in_ok-hop.field-0 answer

pub returns-clause-passes : goal.returns-clause-passes
returns-clause-passes c =
    let answer = rw (c.freed_aim_of-aim.ensures, c.as_slice.ensures, c.as_slice-2.ensures) at c.in_ok-hop.ensures in
    answer-passes c.args.pair.now (freed_aim c.args.front.now.blocked c.args.front.now.freed c.args.hop.next) c.args.hop.input c.args.hop.cube c.in_ok-hop.field-0 answer

pub returns-clause-widest : goal.returns-clause-widest
returns-clause-widest c =
    let answer = rw (c.freed_aim_of-aim.ensures, c.as_slice.ensures, c.as_slice-2.ensures) at c.in_ok-hop.ensures in
    answer-widest c.args.pair.now (freed_aim c.args.front.now.blocked c.args.front.now.freed c.args.hop.next) c.args.hop.input c.args.hop.cube c.in_ok-hop.field-0 answer c.requires.hop.cube
