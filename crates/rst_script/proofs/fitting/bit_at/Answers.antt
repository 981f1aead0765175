use Rattle.std.proofs.Common.{arith}
use Rattle.rst_script.proofs.NumberFacts.{high_bit}
use Rattle.rst_script.proofs.fitting.bit_at.Goals as goal

pub returns-else-weight-lt64 : goal.returns-else-weight-lt64
returns-else-weight-lt64 c = high_bit c.args.value c.args.weight (omega (arith, c.ranges.value)) c.if-weight-lt64.false
