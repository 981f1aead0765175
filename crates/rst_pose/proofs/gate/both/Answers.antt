use Rattle.rst_pose.proofs.Growing.{grown, ok_always}
use Rattle.rst_pose.proofs.gate.both.Goals as goal

pub returns-clause-grows : goal.returns-clause-grows
returns-clause-grows c =
    ok_always c.and.result (grown 1 c.args.dom.now c.and.new.self c.and.ensures.keeps_held c.and.ensures.keeps_aside c.and.ensures.spends)
