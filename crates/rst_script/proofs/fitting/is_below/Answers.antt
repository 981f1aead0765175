use Rattle.std.proofs.Common.{arith}
use Rattle.rst_script.proofs.NumberFacts.{wide, narrow}
use Rattle.rst_script.proofs.fitting.is_below.Goals as goal

pub returns-then-width-ge64 : goal.returns-then-width-ge64
returns-then-width-ge64 c = wide c.args.value c.args.width (omega (arith, c.ranges.value)) c.if-width-ge64.true

pub returns-else-width-ge64 : goal.returns-else-width-ge64
returns-else-width-ge64 c = narrow c.args.value c.args.width
