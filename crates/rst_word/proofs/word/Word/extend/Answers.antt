use Rattle.rst_word.proofs.Powers.{filled_fits}
use Rattle.rst_word.proofs.word.Word.extend.Goals as goal

pub invariant_of-result-clause-fits : goal.invariant_of-result-clause-fits
invariant_of-result-clause-fits c = rw c.ones.ensures (filled_fits c.if-signed.fill c.args.self.value c.args.self.width c.args.width c.args.self.fits c.requires.wider)
