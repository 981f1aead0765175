use Rattle.rst_front_bench.proofs.Sources.{pushed}
use Rattle.rst_front_bench.proofs.files.sources_of.Goals as goal

pub loop-text-preserved : goal.loop-text-preserved
loop-text-preserved c = pushed c.push.result c.loop-text.sources.items c.push.new.self.items c.in_ok-source.source c.push.ensures.items c.loop-text.invariant c.in_ok-source.ensures
