use Rattle.std.proofs.Common.{◌≡◌, ◌-◌, ◌^◌, ◌≤◌, arith}
use Rattle.rst_gate.specs.Circuits.{room_for}
use Rattle.rst_pose.proofs.Growing.{grown, grown_more, ok_always}
use Rattle.rst_pose.proofs.gate.one_side.Goals as goal

pub eval-requires-clause-room : goal.eval-requires-clause-room
eval-requires-clause-room c x e =
    let room : 2 ^ 31 - 1 - c.args.dom.now.clauses.vars ≡ x = (cc) in
    omega (arith, room, c.requires.room, c.requires.small.gates, c.requires.small.outs, c.requires.small.nexts)

pub returns-clause-grows : goal.returns-clause-grows
returns-clause-grows c =
    let most : room_for c.args.gates.now ≤ 66305 = omega (arith, c.requires.small.gates, c.requires.small.outs, c.requires.small.nexts) in
    ok_always c.eval.result
    (grown_more (room_for c.args.gates.now) 66305 c.args.dom.now c.eval.new.dom most
    (grown (room_for c.args.gates.now) c.args.dom.now c.eval.new.dom c.eval.ensures.keeps_held c.eval.ensures.keeps_aside c.eval.ensures.spends))
