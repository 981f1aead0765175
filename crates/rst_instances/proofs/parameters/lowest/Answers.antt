use Rattle.std.proofs.Common.{sym}
use Rattle.std.proofs.Math.Nat.{mod-eq_of_lt}
use Rattle.rst_instances.proofs.RangeLemmas.{small_word}
use Rattle.rst_instances.proofs.parameters.lowest.Goals as goal

pub returns-else-bits-word-clause-exact : goal.returns-else-bits-word-clause-exact
returns-else-bits-word-clause-exact c = sym (mod-eq_of_lt (small_word c.args.word.value c.args.word.width c.args.bits.count c.args.word.fits c.if-bits-word.false))

pub returns-else-bits-word-clause-fits : goal.returns-else-bits-word-clause-fits
returns-else-bits-word-clause-fits c = small_word c.args.word.value c.args.word.width c.args.bits.count c.args.word.fits c.if-bits-word.false
