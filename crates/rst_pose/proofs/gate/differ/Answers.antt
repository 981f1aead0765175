use Rattle.rst_pose.proofs.Growing.{grown, ok_always}
use Rattle.rst_pose.proofs.gate.differ.Goals as goal

pub returns-clause-grows : goal.returns-clause-grows
returns-clause-grows c =
    ok_always c.xor.result (grown 1 c.args.dom.now c.xor.new.self c.xor.ensures.keeps_held c.xor.ensures.keeps_aside c.xor.ensures.spends)
