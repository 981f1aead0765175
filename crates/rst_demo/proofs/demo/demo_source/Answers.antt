use Rattle.rst_demo.proofs.Lengths.{source_is_short}
use Rattle.rst_demo.proofs.demo.demo_source.Goals as goal

pub returns-clause-short : goal.returns-clause-short
returns-clause-short c = source_is_short c.args.stages c.written.result c.requires c.written.ensures
