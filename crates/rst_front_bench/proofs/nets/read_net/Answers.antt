use Rattle.rst_front_bench.proofs.Lowerable.{lowerable}
use Rattle.rst_front_bench.proofs.nets.read_net.Goals as goal

pub returns : goal.returns
returns c =
    let laws = c.nets_are_sources.ensures in
    lowerable _ _ _ c.read_design.result laws.fits laws.widths c.read_design.ensures.accepted
